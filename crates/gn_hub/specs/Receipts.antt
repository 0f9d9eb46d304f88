-- What the calls that take the lock do to their actor.
use Rattle.std.specs.Prelude.{◌≡◌, ◌<◌, ◌≤◌, ℕ, Bool, true, false, List, [], ◌∷◌, ◌++◌, length, map, slice_index_or, take, Option, Some, None}
use Rattle.gn_wire.specs.Packet.{Packet}
use Rattle.gn_rules.specs.declared.event.Event.{Event}
use Rattle.gn_rules.specs.declared.event.Event.TheVariants.{Close, Take}
use Rattle.gn_rules.specs.declared.receipt.Receipt.{Receipt}
use Rattle.gn_rules.specs.declared.refusal.Refusal.{Refusal}
use Rattle.gn_rules.specs.declared.refusal.Refusal.TheVariants.{HistoryFull, NoMemory}
use Rattle.gn_rules.specs.declared.reply.Reply.{Reply}
use Rattle.gn_rules.specs.declared.reply.Reply.TheVariants.{Closed, Taken}
use Rattle.gn_hub.specs.ActorState.{ActorState, receipt, with_receipt}
use Rattle.gn_rules.specs.Fits.{refuses, replies}
use Rattle.gn_hub.specs.declared.progress.Progress.{Progress}

-- an actor got a receipt of the event, with a reply that it may have
abbrev pub HasReceipt : {A : Type 0} → Event A → ActorState A → ActorState A → Type 0
HasReceipt {A} event me us =
    (index : ℕ) × (reply : Reply A) × (replies event reply ≡ true) × (us ≡ with_receipt me (receipt index event reply))

-- an actor got this receipt of the event, with a reply that it may have
abbrev pub HasThis : {A : Type 0} → Event A → Receipt A → ActorState A → ActorState A → Type 0
HasThis event r me us = (replies event r.reply ≡ true) × (us ≡ with_receipt me (receipt r.index event r.reply))

-- an actor with these receipts more
abbrev pub with_receipts : {A : Type 0} → ActorState A → List (Receipt A) → ActorState A
with_receipts me rs = record me { receipts = me.receipts ++ rs }

-- the receipts that an actor got are put to those that are kept
pub record AreKept {A : Type 0} (before after : List (Receipt A)) (me us : ActorState A) : Type 0 where
  pub got : List (Receipt A)
  pub kept : after ≡ before ++ got
  pub actor : us ≡ with_receipts me got

-- an actor got a receipt of each of these events, in order, with a reply that it may have
abbrev pub HasReceipts : {A : Type 0} → List (Event A) → ActorState A → ActorState A → Type 0
HasReceipts [] me us = us ≡ me
HasReceipts {A} (event ∷ events) me us = (mid : ActorState A) × HasReceipt event me mid × HasReceipts events mid us

-- an actor got receipts of the first of these events, so many as were done: of one at least, where none was refused
pub record HasProgressed {A : Type 0} (events : List (Event A)) (progress : Progress) (me us : ActorState A) : Type 0 where
  pub within : progress.done ≤ length events
  pub receipts : HasReceipts (take progress.done events) me us
  pub some : progress.refusal ≡ None → 0 < progress.done
  -- the next one was refused as it may be
  pub refused : (refusal : Refusal) → progress.refusal ≡ Some refusal
      → (progress.done < length events) × ((d : Event A) → refuses (slice_index_or events progress.done d) refusal ≡ true)

-- an actor got a receipt of a packet that was taken
abbrev pub HasTaken : {A : Type 0} → ℕ → ActorState A → ActorState A → Type 0
HasTaken {A} c me us = (index : ℕ) × (packet : Packet) × (us ≡ with_receipt me (receipt index (Take c) (Taken packet)))

-- a packet that was taken, and the number of its step
pub record TakenAt : Type 0 where
  pub index : ℕ
  pub packet : Packet

-- the receipt of a packet that was taken from a connection
abbrev pub taken_receipt : {A : Type 0} → ℕ → TakenAt → Receipt A
taken_receipt c at = receipt at.index (Take c) (Taken at.packet)

-- an actor got receipts of at most so many packets that were taken
abbrev pub HasTakenMore : {A : Type 0} → ℕ → ℕ → ActorState A → ActorState A → Type 0
HasTakenMore most c me us =
    (taken : List TakenAt) × (length taken ≤ most)
    × (us ≡ record me { receipts = me.receipts ++ map (taken_receipt c) taken })

-- an actor got receipts of packets that were taken: of at least one, and of at most so many
abbrev pub HasTakenSome : {A : Type 0} → ℕ → ℕ → ActorState A → ActorState A → Type 0
HasTakenSome most c me us =
    (taken : List TakenAt) × (0 < length taken) × (length taken ≤ most)
    × (us ≡ record me { receipts = me.receipts ++ map (taken_receipt c) taken })

-- an actor got a receipt of a close that discarded nothing
abbrev pub HasDrained : {A : Type 0} → ℕ → ActorState A → ActorState A → Type 0
HasDrained {A} c me us = (index : ℕ) × (us ≡ with_receipt me (receipt index (Close c) (Closed 0)))

-- an actor got a receipt of a close that discarded nothing, at the step before which nothing was in flight, as this says
abbrev pub IsDrainedAt : {A : Type 0} → ℕ → Option ℕ → ActorState A → ActorState A → Type 0
IsDrainedAt c None me us = ⊥
IsDrainedAt c (Some idle) me us = us ≡ with_receipt me (receipt idle (Close c) (Closed 0))

-- an actor closed a connection, and got a receipt of it; or, without a receipt, the connection was found closed, as this says
abbrev pub HasClosed : {A : Type 0} → ℕ → Option ℕ → ActorState A → ActorState A → Type 0
HasClosed {A} c None me us = (index count : ℕ) × (us ≡ with_receipt me (receipt index (Close c) (Closed count)))
HasClosed c (Some found) me us = (found ≡ c) × (us ≡ me)

-- a refusal that stops every step: the history is full, or out of memory
abbrev pub is_stop : Refusal → Bool
is_stop HistoryFull = true
is_stop NoMemory = true
is_stop refusal = false
