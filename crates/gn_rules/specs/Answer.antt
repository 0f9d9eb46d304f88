-- What the rules answer to an event, and when a history is legal.
use Rattle.std.specs.Prelude.{◌≡◌, ◌+◌, ℕ, Bool, true, false, ◌==◌, ◌&&◌, not, nat_le, if◌then◌else◌, List, [], ◌∷◌, length, slice_get, Option, option_map, ok_or, Result, Ok, Err, IsOk}
use Rattle.std.specs.Option.{option_map_or}
use Rattle.gn_wire.specs.declared.kind.Kind.{Kind}
use Rattle.gn_wire.specs.Packet.{forward_of, life_left, Packet}
use Rattle.gn_wire.specs.Keys.{key_of, is_same_packet}
use Rattle.gn_payload.specs.Reading.{has_reading}
use Rattle.gn_rules.specs.declared.config.Config.{Config}
use Rattle.gn_rules.specs.declared.event.Event.{Event}
use Rattle.gn_rules.specs.declared.event.Event.TheVariants.{Connect, Close, Admit, Route, Take, Originate}
use Rattle.gn_rules.specs.declared.receipt.Receipt.{Receipt}
use Rattle.gn_rules.specs.declared.receipt.Step.{Step}
use Rattle.gn_rules.specs.declared.refusal.Refusal.{Refusal}
use Rattle.gn_rules.specs.declared.refusal.Refusal.TheVariants.{HistoryFull, NotLive, NoTicket, Strange, NothingWaiting, BadOrigin, Remembered, NoMemory}
use Rattle.gn_rules.specs.declared.reply.Reply.{Reply}
use Rattle.gn_rules.specs.declared.reply.Reply.TheVariants.{Connected, TooMany, Closed, Admitted, Busy, Crowded, Routed, Dropped, Taken, Sent}
use Rattle.gn_rules.specs.Decision.{Decision, Drop, Local, Flood, Forward, decide}
use Rattle.gn_rules.specs.Flight.{Admission, tickets, flying, flying_from, in_flight}
use Rattle.gn_rules.specs.History.{live, connections, live_connections}
use Rattle.gn_rules.specs.Output.{out}
use Rattle.gn_rules.specs.Routings.{does_flood, routing_of}
use Rattle.gn_rules.specs.Sending.{send, fanout, flood_sends}
use Rattle.gn_rules.specs.SeenEntries.{is_remembered}

-- whether a kind is a request
abbrev pub is_request : Kind → Bool
is_request kind = does_flood (routing_of kind)

-- whether the local servent may send d: a sound Ping or Query with a TTL above 0 and within the limit on a life, and Hops 0
abbrev pub may_originate : ℕ → Packet → Bool
may_originate life d =
    is_request d.kind && not (d.ttl == 0) && (d.hops == 0) && (life_left life d == d.ttl) && has_reading d.kind d.payload

-- the reply that a decision makes: what is sent, and whether the local servent gets the descriptor too
abbrev pub decision_reply : {A : Type 0} → Config → List (Step A) → Admission → Decision → Reply A
decision_reply s past a (Drop reason) = Dropped reason
decision_reply s past a Local = Routed [] true
decision_reply s past a Flood = Routed (flood_sends s past a) true
decision_reply s past a (Forward r) = Routed (send s past (forward_of s.numbers.life a.packet) r ∷ []) false

-- the reply to an Admit: Busy at the threshold, Crowded at that of one connection, else the next ticket
abbrev pub admission_reply : {A : Type 0} → Bool → Bool → ℕ → Reply A
admission_reply busy crowded next = if busy then Busy else if crowded then Crowded else Admitted next

-- what the rules answer to an event where the history has room for a step: a reply, or a refusal
abbrev pub event_answer : {A : Type 0} → Config → List (Step A) → Event A → Result (Reply A) Refusal
-- TooMany where the limit of live connections is reached, else the next number
event_answer s past Connect =
    if length (live_connections past) == s.numbers.neighbours then Ok TooMany
    else Ok (Connected (1 + length (connections past)))
-- refused where c isn't live, else how many packets are discarded
event_answer s past (Close c) = if not (live past c) then Err NotLive else Ok (Closed (length (out past c)))
-- refused where c isn't live, else the `admission_reply` by how many are in flight, and how many of c
event_answer s past (Admit c d) =
    if not (live past c) then Err NotLive
    else Ok (admission_reply (length (flying past) == s.numbers.stage)
    (not (s.numbers.crowd == 0) && nat_le s.numbers.crowd (length (flying_from past c)))
    (length (tickets past)))
-- refused where nothing is in flight under the ticket, else what is decided of it
event_answer s past (Route t) =
    ok_or (option_map (λ a. decision_reply s past a (decide s past a)) (in_flight past t)) NoTicket
-- refused where c isn't live or nothing waits, else the first packet of its output
event_answer s past (Take c) =
    if not (live past c) then Err NotLive
    else ok_or (option_map (λ packet. Taken packet) (slice_get (out past c) 0)) NothingWaiting
-- refused where the local servent may not send d or its key is remembered, else d, unchanged, to each live connection,
-- ascending
event_answer s past (Originate d) =
    if not (may_originate s.numbers.life d) then Err BadOrigin
    else if is_remembered s past (key_of d) then Err Remembered
    else Ok (Sent (fanout s past 0 d))

-- what the rules answer to an event after these steps; a full history refuses every event
abbrev pub answer : {A : Type 0} → Config → List (Step A) → Event A → Result (Reply A) Refusal
answer s past event = if length past == s.numbers.steps then Err HistoryFull else event_answer s past event

-- an answer to a Route where the descriptor d was checked beforehand: strange, where d isn't the one that is in flight
abbrev pub unless_strange : {A : Type 0} → Packet → Option Admission → Result (Reply A) Refusal → Result (Reply A) Refusal
unless_strange d found (Err refusal) = Err refusal
unless_strange d found (Ok reply) =
    if option_map_or (λ a. is_same_packet d a.packet) found false then Ok reply else Err Strange

-- what the rules answer to a Route with a descriptor that was checked beforehand
abbrev pub checked_answer : {A : Type 0} → Config → List (Step A) → ℕ → Packet → Result (Reply A) Refusal
checked_answer s past t d = unless_strange d (in_flight past t) (answer s past (Route t))

-- what a router finds: just what the rules answer, or out of memory where they give a reply
abbrev pub Finds : {A : Type 0} → Result (Reply A) Refusal → Result (Reply A) Refusal → Type 0
Finds (Err NoMemory) rules = IsOk rules
Finds found rules = rules ≡ found

-- the reply of a receipt
abbrev pub reply_of : {A : Type 0} → Result (Receipt A) Refusal → Result (Reply A) Refusal
reply_of (Ok receipt) = Ok receipt.reply
reply_of (Err refusal) = Err refusal

-- a history is legal where each reply is the rules' answer after the steps before it
abbrev pub IsLegal : {A : Type 0} → Config → List (Step A) → Type 0
IsLegal s [] = Unit {0}
IsLegal s (step ∷ earlier) = (answer s earlier step.event ≡ Ok step.reply) × IsLegal s earlier
