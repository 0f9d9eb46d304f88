-- What one step says, the connections of a history, and the steps of one actor.
--
-- A history is the list of a router's steps. Contracts have it in order. The definitions of the rules are given the
-- steps before an event with the newest first: there the newest step is the head, and "the steps before it" the tail.
use Rattle.std.specs.Prelude.{ℕ, Bool, true, false, ◌==◌, List, [], Option, Some, None, ◌&&◌, ◌||◌, not, ◌∷◌, ◌++◌, filter, ◌+◌, if◌then◌else◌}
use Rattle.std.specs.Option.{option_to_list}
use Rattle.gn_wire.specs.Packet.{Packet}
use Rattle.gn_rules.specs.declared.event.Event.{Event}
use Rattle.gn_rules.specs.declared.event.Event.TheVariants.{Close, Route, Take}
use Rattle.gn_rules.specs.declared.reply.DropReason.{DropReason}
use Rattle.gn_rules.specs.declared.reply.Reply.{Reply}
use Rattle.gn_rules.specs.declared.reply.Reply.TheVariants.{Connected, Closed, Admitted, Routed, Dropped, Taken, Sent}
use Rattle.gn_rules.specs.declared.sends.Sending.{Sending}
use Rattle.gn_rules.specs.declared.receipt.Step.{Step}
use Rattle.gn_rules.specs.declared.receipt.Receipt.{Receipt}

-- the connection that a reply made
abbrev pub connected_of : {A : Type 0} → Reply A → Option ℕ
connected_of (Connected c) = Some c
connected_of reply = None

-- the ticket that a reply gave
abbrev pub admitted_of : {A : Type 0} → Reply A → Option ℕ
admitted_of (Admitted t) = Some t
admitted_of reply = None

-- why a reply dropped a descriptor
abbrev pub dropped_of : {A : Type 0} → Reply A → Option DropReason
dropped_of (Dropped reason) = Some reason
dropped_of reply = None

-- whether a reply says that a descriptor was routed
abbrev pub is_routed_reply : {A : Type 0} → Reply A → Bool
is_routed_reply (Routed sends local) = true
is_routed_reply reply = false

-- whether a reply says that the local servent's descriptor was sent
abbrev pub is_sent_reply : {A : Type 0} → Reply A → Bool
is_sent_reply (Sent sends) = true
is_sent_reply reply = false

-- the packet that a reply took
abbrev pub taken_of : {A : Type 0} → Reply A → Option Packet
taken_of (Taken packet) = Some packet
taken_of reply = None

-- how many packets a reply says were discarded
abbrev pub closed_of : {A : Type 0} → Reply A → Option ℕ
closed_of (Closed count) = Some count
closed_of reply = None

-- the packets that a reply sends
abbrev pub sends_of : {A : Type 0} → Reply A → List (Sending A)
sends_of (Routed sends local) = sends
sends_of (Sent sends) = sends
sends_of reply = []

-- whether an event closes c
abbrev pub is_close : {A : Type 0} → ℕ → Event A → Bool
is_close c (Close d) = c == d
is_close c event = false

-- whether an event takes from c
abbrev pub is_take : {A : Type 0} → ℕ → Event A → Bool
is_take c (Take d) = c == d
is_take c event = false

-- the ticket that an event routes
abbrev pub ticket_of : {A : Type 0} → Event A → Option ℕ
ticket_of (Route t) = Some t
ticket_of event = None

-- whether a look at a reply or an event, as `connected_of` or `ticket_of`, gave a number, and it is this one
abbrev pub is_at : ℕ → Option ℕ → Bool
is_at n None = false
is_at n (Some m) = n == m

-- c is live: a step replied that it was connected, and no later step closed it
abbrev pub live : {A : Type 0} → List (Step A) → ℕ → Bool
live [] c = false
live (step ∷ earlier) c = is_at c (connected_of step.reply) || (not (is_close c step.event) && live earlier c)

-- all connections that were made, from the first on
abbrev pub connections : {A : Type 0} → List (Step A) → List ℕ
connections [] = []
connections (step ∷ earlier) = connections earlier ++ option_to_list (connected_of step.reply)

-- those that are live, in that order, so that their numbers rise
abbrev pub live_connections : {A : Type 0} → List (Step A) → List ℕ
live_connections past = filter (live past) (connections past)

-- actor a's receipts of these steps; the first of the steps has index i
abbrev pub mine_from : {A : Type 0} → ℕ → ℕ → List (Step A) → List (Receipt A)
mine_from a i [] = []
mine_from a i (step ∷ steps) =
    if step.actor == a then record { index = i; event = step.event; reply = step.reply } ∷ mine_from a (i + 1) steps
    else mine_from a (i + 1) steps

-- actor a's own steps, as receipts: each with its place in the history
abbrev pub mine : {A : Type 0} → List (Step A) → ℕ → List (Receipt A)
mine steps a = mine_from a 0 steps

-- the step of actor a that a receipt names
abbrev pub step_of : {A : Type 0} → ℕ → Receipt A → Step A
step_of a r = record { actor = a; event = r.event; reply = r.reply }
