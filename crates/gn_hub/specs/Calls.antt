-- What the calls under the lock do to the hub and to the actor that calls.
use Rattle.std.specs.Prelude.{◌≡◌, ℕ, Bool, true, false, ◌==◌, ◌||◌, not, if◌then◌else◌, length, ⊤, Option, Some, None, Result, Ok, Err}
use Rattle.gn_rules.specs.declared.event.Event.{Event}
use Rattle.gn_rules.specs.declared.event.Event.TheVariants.{Connect, Close, Take}
use Rattle.gn_rules.specs.declared.refusal.Refusal.{Refusal}
use Rattle.gn_rules.specs.declared.refusal.Refusal.TheVariants.{HistoryFull, NoMemory}
use Rattle.gn_rules.specs.declared.receipt.Receipt.{Receipt}
use Rattle.gn_rules.specs.declared.reply.Reply.{Reply}
use Rattle.gn_rules.specs.declared.reply.Reply.TheVariants.{Closed}
use Rattle.gn_rules.specs.Answer as rules
use Rattle.gn_rules.specs.History.{live}
use Rattle.gn_rules.specs.Output.{waiting}
use Rattle.gn_hub.specs.declared.next.Next.{Next}
use Rattle.gn_hub.specs.declared.next.Next.TheVariants.{Packet, Later, Over}
use Rattle.gn_hub.specs.declared.next.Outgoing.{Outgoing}
use Rattle.gn_hub.specs.declared.next.Outgoing.TheVariants as outgoing
use Rattle.gn_hub.specs.ActorState.{ActorState, receipt, with_receipt}
use Rattle.gn_hub.specs.HubState.{HubState, past_of, with_step, with_door, door_by, is_closing}

-- what the rules answer to an event now
abbrev pub answer_now : {A : Type 0} → HubState A → Event A → Result (Reply A) Refusal
answer_now h event = rules.answer h.settings (past_of h) event

-- an actor's event makes a step: the reply is the rules', and the actor gets its receipt
abbrev pub HasStepped : {A : Type 0} → Result (Reply A) Refusal → Event A
    → HubState A → ActorState A → HubState A → ActorState A → Type 0
HasStepped {A} answer event before me after us =
    (reply : Reply A) × (answer ≡ Ok reply) × (after ≡ with_step before me.number event reply)
    × (us ≡ with_receipt me (receipt (length before.steps) event reply))

-- an actor got this receipt of its event, which was answered so
abbrev pub HasGot : {A : Type 0} → Result (Reply A) Refusal → Event A → Receipt A → ActorState A → ActorState A → Type 0
HasGot answer event r me us = (answer ≡ Ok r.reply) × (r.event ≡ event) × (us ≡ with_receipt me r)

-- an actor's Connect makes a step, and its reply sets the door of a link
abbrev pub HasConnected : {A : Type 0} → ℕ → HubState A → ActorState A → HubState A → ActorState A → Type 0
HasConnected {A} link before me after us =
    (reply : Reply A) × (answer_now before Connect ≡ Ok reply)
    × (after ≡ with_door (with_step before me.number Connect reply) link (door_by reply))
    × (us ≡ with_receipt me (receipt (length before.steps) Connect reply))

-- a refusal is the rules', or out of memory
abbrev pub IsRefusal : {A : Type 0} → Refusal → Result (Reply A) Refusal → Type 0
IsRefusal NoMemory answer = ⊤
IsRefusal refusal answer = answer ≡ Err refusal

-- what is due for the writer of a connection
pub data Due : Type 0 where
  over : Due
  take : Due
  close : Due
  later : Due

-- over where the connection isn't live or the run has failed; else a packet where one waits; else the close where the run
-- closes; else nothing yet
abbrev pub due : {A : Type 0} → HubState A → ℕ → Due
due h c =
    if not (live (past_of h) c) || h.failed then over
    else if not (waiting (past_of h) c == 0) then take
    else if is_closing h then close
    else later

-- what is answered by what is due, and done: nothing where it is over or later; a Take for a packet; for a close the Close
-- that discards nothing
abbrev pub IsNext : {A : Type 0} → Due → Next → ℕ → HubState A → ActorState A → HubState A → ActorState A → Type 0
IsNext over next c before me after us = (next ≡ Over) × (after ≡ before) × (us ≡ me)
IsNext take next c before me after us =
    (next ≡ Packet) × HasStepped (answer_now before (Take c)) (Take c) before me after us
IsNext close next c before me after us =
    (next ≡ Over) × (answer_now before (Close c) ≡ Ok (Closed 0))
    × HasStepped (answer_now before (Close c)) (Close c) before me after us
IsNext later next c before me after us = (next ≡ Later) × (after ≡ before) × (us ≡ me)

-- the same by what a writer is answered that waits while it is none: over is Closed, and where the run closes Drained
abbrev pub IsOutgoing :
    {A : Type 0} → Due → Option Outgoing → ℕ → HubState A → ActorState A → HubState A → ActorState A → Type 0
IsOutgoing over answer c before me after us = (answer ≡ Some outgoing.Closed) × (after ≡ before) × (us ≡ me)
IsOutgoing take answer c before me after us =
    (answer ≡ Some outgoing.Packet) × HasStepped (answer_now before (Take c)) (Take c) before me after us
IsOutgoing close answer c before me after us =
    (answer ≡ Some outgoing.Drained) × (answer_now before (Close c) ≡ Ok (Closed 0))
    × HasStepped (answer_now before (Close c)) (Close c) before me after us
IsOutgoing later answer c before me after us = (answer ≡ None) × (after ≡ before) × (us ≡ me)

-- what is next, by what such a writer is answered
abbrev pub next_of : Option Outgoing → Next
next_of (Some outgoing.Packet) = Packet
next_of (Some outgoing.Drained) = Over
next_of (Some outgoing.Closed) = Over
next_of None = Later

-- whether a step is due
abbrev pub is_step : Due → Bool
is_step over = false
is_step take = true
is_step close = true
is_step later = false

-- no step can be made: the history is full, or out of memory
abbrev pub IsStop : {A : Type 0} → Refusal → HubState A → Type 0
IsStop HistoryFull h = length h.steps ≡ h.settings.numbers.steps
IsStop NoMemory h = ⊤
IsStop refusal h = ⊥
