-- An actor as contracts see it: one of the callers of a router, and the receipts of its calls.
use Rattle.std.specs.Prelude.{ℕ, List, [], ◌∷◌, ◌++◌}
use Rattle.gn_rules.specs.declared.event.Event.{Event}
use Rattle.gn_rules.specs.declared.receipt.Receipt.{Receipt}
use Rattle.gn_rules.specs.declared.reply.Reply.{Reply}

-- an actor: its number, and its receipts in order
pub record ActorState (A : Type 0) : Type 0 where
  pub number : ℕ
  pub receipts : List (Receipt A)

-- an actor that has no receipts
abbrev pub new_actor : {A : Type 0} → ℕ → ActorState A
new_actor n = record { number = n; receipts = [] }

-- the receipt of a step
abbrev pub receipt : {A : Type 0} → ℕ → Event A → Reply A → Receipt A
receipt index event reply = record { index = index; event = event; reply = reply }

-- an actor with one receipt more
abbrev pub with_receipt : {A : Type 0} → ActorState A → Receipt A → ActorState A
with_receipt me r = record me { receipts = me.receipts ++ r ∷ [] }
