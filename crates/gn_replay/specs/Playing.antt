-- A replay as it stands.
use Rattle.std.specs.Prelude.{◌≡◌, ◌==◌, ℕ, Bool, if◌then◌else◌, List, ◌++◌}
use Rattle.gn_io.specs.Counts.{count_more}
use Rattle.gn_rules.specs.declared.config.Config.{Config}
use Rattle.gn_rules.specs.declared.receipt.Step.{Step}
use Rattle.gn_replay.specs.declared.form.Form.{Form}
use Rattle.gn_replay.specs.declared.form.Form.TheVariants.{Steps, Whole}
use Rattle.gn_replay.specs.declared.link.Link.{Link}
use Rattle.gn_replay.specs.Events.{Played}
use Rattle.gn_replay.specs.Links.{IsLink, AreLinks}
use Rattle.gn_replay.specs.Pieces.{Admits, Linked}
use Rattle.gn_replay.specs.ReplayText.{After}

-- what is printed of something that was played: all, or the lines of its steps
abbrev pub said : {A : Type 0} → Form → Played A → List ℕ
said Whole p = p.text
said Steps p = p.lines

-- what is printed; the router's configuration and steps, the newest first; what is kept of each link; what is printed and
-- not written yet; and the count of refusals
pub record Playing (A : Type 0) : Type 0 where
  pub form : Form
  pub settings : Config
  pub past : List (Step A)
  pub links : List (Link A)
  pub out : List ℕ
  pub refusals : ℕ

-- a count of refusals after n more; it stays at the last value of a count
abbrev pub refused_more : ℕ → ℕ → ℕ
refused_more n count = if n == 0 then count else count_more n count

-- the replay after something was played: its steps stand then, what is printed of it is after what was printed, its refusals
-- are counted; the links are as they were
abbrev pub after_playing : {A : Type 0} → Playing A → Played A → Playing A
after_playing v p = record v { past = p.past; out = v.out ++ said v.form p; refusals = refused_more p.refusals v.refusals }

-- descriptors were admitted, and the connection was found closed or not
pub record HasAdmitted {A : Type 0} (closed : Bool) (before after : Playing A) (came : Admits A) : Type 0 where
  pub played : after ≡ after_playing before came.played
  pub found : closed ≡ came.closed

-- the replay with these links
abbrev pub with_links : {A : Type 0} → Playing A → List (Link A) → Playing A
with_links v links = record v { links = links }

-- something was played, and what is kept of the link is what its bytes so far leave of it
pub record HasLinked {A : Type 0} (link : Link A) (before after : Playing A) (linked : Linked A) : Type 0 where
  pub played : after ≡ after_playing before linked.played
  pub state : IsLink link linked.state

-- a line was played, and what is kept of each link is what its bytes so far leave of it
pub record HasPlayed {A : Type 0} (before after : Playing A) (done : After A) : Type 0 where
  pub played : after ≡ with_links (after_playing before done.played) after.links
  pub links : AreLinks after.links done.links
