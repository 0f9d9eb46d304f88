-- Which replies and which refusals an event may have.
use Rattle.std.specs.Prelude.{◌≡◌, ℕ, Bool, true, false, is_some, List, Result, Ok, Err}
use Rattle.gn_wire.specs.Packet.{Packet}
use Rattle.gn_rules.specs.declared.config.Config.{Config}
use Rattle.gn_rules.specs.declared.event.Event.{Event}
use Rattle.gn_rules.specs.declared.event.Event.TheVariants.{Connect, Close, Admit, Route, Take, Originate}
use Rattle.gn_rules.specs.declared.receipt.Step.{Step}
use Rattle.gn_rules.specs.declared.refusal.Refusal.{Refusal}
use Rattle.gn_rules.specs.declared.refusal.Refusal.TheVariants.{HistoryFull, NotLive, NoTicket, Strange, NothingWaiting, BadOrigin, Remembered, NoMemory}
use Rattle.gn_rules.specs.declared.reply.Reply.{Reply}
use Rattle.gn_rules.specs.declared.reply.Reply.TheVariants.{Connected, TooMany, Closed, Admitted, Busy, Crowded, Routed, Dropped, Taken, Sent}
use Rattle.gn_rules.specs.Answer.{answer, checked_answer}
use Rattle.gn_rules.specs.History.{ticket_of}

-- the replies that an event may have
abbrev pub replies : {A : Type 0} → Event A → Reply A → Bool
replies Connect (Connected c) = true
replies Connect TooMany = true
replies (Close c) (Closed count) = true
replies (Admit c d) (Admitted t) = true
replies (Admit c d) Busy = true
replies (Admit c d) Crowded = true
replies (Route t) (Routed sends local) = true
replies (Route t) (Dropped reason) = true
replies (Take c) (Taken packet) = true
replies (Originate d) (Sent sends) = true
replies event reply = false

-- whether a reply says that a threshold is reached, that of all or that of one connection: the descriptor is gone
abbrev pub is_at_threshold : {A : Type 0} → Reply A → Bool
is_at_threshold Busy = true
is_at_threshold Crowded = true
is_at_threshold reply = false

-- whether an event wants a live connection
abbrev pub wants_live : {A : Type 0} → Event A → Bool
wants_live (Close c) = true
wants_live (Admit c d) = true
wants_live (Take c) = true
wants_live event = false

-- whether an event takes a packet, from whatever connection
abbrev pub takes_packet : {A : Type 0} → Event A → Bool
takes_packet (Take c) = true
takes_packet event = false

-- whether an event is of the local servent's own descriptor
abbrev pub originates : {A : Type 0} → Event A → Bool
originates (Originate d) = true
originates event = false

-- the refusals that an event may meet: each has its events, but a full history and refused memory stop any
abbrev pub refuses : {A : Type 0} → Event A → Refusal → Bool
refuses event HistoryFull = true
refuses event NotLive = wants_live event
refuses event NoTicket = is_some (ticket_of event)
refuses event Strange = is_some (ticket_of event)
refuses event NothingWaiting = takes_packet event
refuses event BadOrigin = originates event
refuses event Remembered = originates event
refuses event NoMemory = true

-- whether a reply or a refusal is one that the event may have
abbrev pub is_fit : {A : Type 0} → Event A → Result (Reply A) Refusal → Bool
is_fit event (Ok reply) = replies event reply
is_fit event (Err refusal) = refuses event refusal

-- what the rules answer to an event is a reply or a refusal that it may have
abbrev pub AnswersFit : Type 0 → Type 0
AnswersFit A = (s : Config) (past : List (Step A)) (event : Event A) → is_fit event (answer s past event) ≡ true

-- and so is what they answer to a Route with a descriptor that was checked beforehand
abbrev pub CheckedAnswersFit : Type 0 → Type 0
CheckedAnswersFit A =
    (s : Config) (past : List (Step A)) (t : ℕ) (d : Packet) → is_fit {A = A} (Route t) (checked_answer s past t d) ≡ true
