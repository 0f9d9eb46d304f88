-- A router that is given a list of events.
use Rattle.std.specs.Prelude.{◌≡◌, Bool, true, false, List, [], ◌∷◌, length, Result, Ok, Err}
use Rattle.gn_rules.specs.declared.config.Config.{Config}
use Rattle.gn_rules.specs.declared.event.Event.{Event}
use Rattle.gn_rules.specs.declared.receipt.Receipt.{Receipt}
use Rattle.gn_rules.specs.declared.receipt.Step.{Step}
use Rattle.gn_rules.specs.declared.refusal.Refusal.{Refusal}
use Rattle.gn_rules.specs.declared.refusal.Refusal.TheVariants.{NoMemory}
use Rattle.gn_rules.specs.Answer.{answer, Finds, reply_of}

-- the steps after an event of actor 0 with this result: one more where it was a reply, the same where it was refused
abbrev pub past_after : {A : Type 0} → List (Step A) → Event A → Result (Receipt A) Refusal → List (Step A)
past_after past event (Ok receipt) = record { actor = 0; event = event; reply = receipt.reply } ∷ past
past_after past event (Err refusal) = past

-- a receipt says where its step stands, and its event
abbrev pub IsReceipt : {A : Type 0} → List (Step A) → Event A → Result (Receipt A) Refusal → Type 0
IsReceipt past event (Ok receipt) = (receipt.index ≡ length past) × (receipt.event ≡ event)
IsReceipt past event (Err refusal) = Unit {0}

-- the result of an event is what the rules answer after these steps, or out of memory where they give a reply
pub record IsAnswered {A : Type 0} (s : Config) (past : List (Step A)) (event : Event A) (result : Result (Receipt A) Refusal) : Type 0 where
  pub found : Finds (reply_of result) (answer s past event)
  pub known : IsReceipt past event result

-- a run: each event has its result after the steps that stand there, and these steps stand at the end
abbrev pub Ran : {A : Type 0} → Config → List (Step A) → List (Event A) → List (Result (Receipt A) Refusal) → List (Step A) → Type 0
Ran s past [] [] after = after ≡ past
Ran s past (event ∷ events) (result ∷ results) after =
    IsAnswered s past event result × Ran s (past_after past event result) events results after
Ran s past events results after = ⊥

-- a result that isn't out of memory
abbrev pub had_memory : {A : Type 0} → Result (Receipt A) Refusal → Bool
had_memory (Err NoMemory) = false
had_memory result = true
