-- Lines that were played on a router, with what was written of their text.
use Rattle.std.specs.Prelude.{◌≡◌, ◌++◌, ℕ, List, [], Option}
use Rattle.std.specs.Io.KnownBytes.{Appends}
use Rattle.gn_replay.specs.declared.fault.ReplayFault.{ReplayFault}
use Rattle.gn_replay.specs.declared.fault.ReplayFault.TheVariants.{Write, NoMemory}
use Rattle.gn_io.specs.Parts.{LeavesToWrite}
use Rattle.gn_io.specs.Streams.{HasWriteFailed, NoWriteFailed, SinkState}
use Rattle.gn_rules.specs.declared.receipt.Step.{Step}
use Rattle.gn_replay.specs.Events.{Played}
use Rattle.gn_replay.specs.Links.{AreLinks}
use Rattle.gn_replay.specs.declared.form.Form.{Form}
use Rattle.gn_replay.specs.Playing.{Playing, refused_more, said}
use Rattle.gn_replay.specs.ReplayText.{After}

-- this was played on a new router: its steps, the newest first, the count of refusals, and all of its text was written
pub record HasRun {A : Type 0} (played : Played A) (steps : List (Step A)) (count : ℕ) (old new : Option (List ℕ))
    : Type 0 where
  pub past : steps ≡ played.past
  pub refusals : count ≡ refused_more played.refusals 0
  pub text : Appends old new played.text

-- this was played on a new router, and after this beginning all that is printed of it was written but what waits
pub record HasPassed {A : Type 0} (form : Form) (begun : List ℕ) (played : Played A) (steps : List (Step A)) (count : ℕ)
    (old new : Option (List ℕ)) (waiting : List ℕ) : Type 0 where
  pub past : steps ≡ played.past
  pub refusals : count ≡ refused_more played.refusals 0
  pub leaves : LeavesToWrite old new waiting (begun ++ said form played)

-- this was played on a new router, and after this beginning all that is printed of it was written, and this ending
pub record HasPrinted {A : Type 0} (form : Form) (begun : List ℕ) (played : Played A) (ending : List ℕ)
    (steps : List (Step A)) (count : ℕ) (old new : Option (List ℕ)) : Type 0 where
  pub past : steps ≡ played.past
  pub refusals : count ≡ refused_more played.refusals 0
  pub text : Appends old new (begun ++ said form played ++ ending)

-- a replay that has nothing yet
pub record IsNew {A : Type 0} (v : Playing A) : Type 0 where
  pub past : v.past ≡ []
  pub links : v.links ≡ []
  pub refusals : v.refusals ≡ 0

-- a line was played, and of what waited and what is printed of it all was written but what waits then
pub record HasWritten {A : Type 0} (before after : Playing A) (old new : Option (List ℕ)) (waited waiting : List ℕ)
    (done : After A) : Type 0 where
  pub form : after.form ≡ before.form
  pub settings : after.settings ≡ before.settings
  pub past : after.past ≡ done.played.past
  pub refusals : after.refusals ≡ refused_more done.played.refusals before.refusals
  pub links : AreLinks after.links done.links
  pub text : LeavesToWrite old new waiting (waited ++ said before.form done.played)

-- when playing stops: Write where a write failed or took nothing; memory may run out at any time, and then no write
-- did; and for no other reason
abbrev pub IsPlayFault : ReplayFault → SinkState → SinkState → Type 0
IsPlayFault Write old new = HasWriteFailed old new
IsPlayFault NoMemory old new = NoWriteFailed old new
IsPlayFault fault old new = ⊥
