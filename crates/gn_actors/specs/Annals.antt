-- What is known of an actor's receipts in the history of a run.
use Rattle.std.specs.Prelude.{◌≡◌, ◌++◌, ◌∷◌, [], ℕ, List, true, length, reverse}
use Rattle.gn_rules.specs.declared.event.Event.TheVariants.{Connect, Route}
use Rattle.gn_rules.specs.declared.receipt.Receipt.{Receipt}
use Rattle.gn_rules.specs.declared.receipt.Step.{Step}
use Rattle.gn_rules.specs.declared.reply.Reply.{Reply}
use Rattle.gn_rules.specs.declared.reply.Reply.TheVariants.{TooMany}
use Rattle.gn_rules.specs.Fits.{replies}
use Rattle.gn_rules.specs.History.{step_of}
use Rattle.gn_laws.specs.Owners.{AreFitting}
use Rattle.gn_actors.specs.ActorState.{ActorState, receipt}

-- an actor's receipts fit its steps: each stands at its index, and the indices ascend
abbrev pub Fits : {A : Type 0} → List (Step A) → ActorState A → Type 0
Fits steps me = AreFitting steps me.number me.receipts

-- one step more, of which this is the receipt: its index is its place
pub record IsStepped {A : Type 0} (before after : List (Step A)) (me : ActorState A) (r : Receipt A) : Type 0 where
  pub step : after ≡ before ++ step_of me.number r ∷ []
  pub index : r.index ≡ length before

-- the first of these steps, which stand the newest first, as its actor's receipt; where there is none, that of a first Connect
abbrev pub newest_receipt : {A : Type 0} → List (Step A) → Receipt A
newest_receipt [] = receipt 0 Connect TooMany
newest_receipt (step ∷ earlier) = receipt (length earlier) step.event step.reply

-- the last of these steps, as its actor's receipt
abbrev pub last_receipt : {A : Type 0} → List (Step A) → Receipt A
last_receipt steps = newest_receipt (reverse steps)

-- one step more, a Route of this actor with a reply that it may have
pub record IsRouted {A : Type 0} (before after : List (Step A)) (me : ActorState A) (ticket : ℕ) (reply : Reply A) : Type 0 where
  pub step : after ≡ before ++ record { actor = me.number; event = Route ticket; reply = reply } ∷ []
  pub fits : replies {A = A} (Route ticket) reply ≡ true
