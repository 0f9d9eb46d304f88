-- The text of a step: its event and its reply.
use Rattle.std.specs.Prelude.{ℕ, Bool, true, false, List, [], ◌++◌, codes, decimal}
use Rattle.std.specs.List.{flat_map}
use Rattle.std.specs.Option.{option_map_or}
use Rattle.hex.specs.Hex.{encode_lower}
use Rattle.gn_wire.specs.Packet.{Packet}
use Rattle.gn_wire.specs.Encoding.{bytes_of}
use Rattle.gn_rules.specs.declared.event.Event.{Event}
use Rattle.gn_rules.specs.declared.event.Event.TheVariants.{Connect, Close, Admit, Route, Take, Originate}
use Rattle.gn_rules.specs.declared.receipt.Step.{Step}
use Rattle.gn_rules.specs.declared.reply.Reply.{Reply}
use Rattle.gn_rules.specs.declared.reply.Reply.TheVariants.{Routed, Dropped, Taken, Sent}
use Rattle.gn_rules.specs.declared.sends.Sending.{Sending}
use Rattle.gn_rules.specs.Plain.{number_of}
use Rattle.gn_rules.specs.Statistics.{counter_of}
use Rattle.gn_numbers.specs.Names.{counter_name, event_name, place_name, reason_name, word_of}
use Rattle.gn_text.specs.Settings.{field_text}

-- the whole encoding of a descriptor, in hex digits of lower case
abbrev pub packet_text : Packet → List ℕ
packet_text d = encode_lower (bytes_of d)

-- the mark of a packet that was queued, and of one that wasn't
abbrev pub mark_text : Bool → List ℕ
mark_text true = codes "+"
mark_text false = codes "-"

-- a send: the connection, the mark, and the packet
abbrev pub sending_text : {A : Type 0} → Sending A → List ℕ
sending_text x = codes " " ++ decimal x.to ++ mark_text x.queued ++ packet_text x.packet

-- the sends, in order
abbrev pub sends_text : {A : Type 0} → List (Sending A) → List ℕ
sends_text sends = flat_map sending_text sends

-- the word of a reply: `dropped`, or that of its counter
abbrev pub reply_name : {A : Type 0} → Reply A → List ℕ
reply_name (Dropped reason) = codes "dropped"
reply_name reply = counter_name (counter_of reply)

-- what stands behind the word of a reply
abbrev pub reply_rest : {A : Type 0} → Reply A → List ℕ
reply_rest (Routed sends local) = codes " " ++ place_name local ++ sends_text sends
reply_rest (Dropped reason) = codes " " ++ reason_name reason
reply_rest (Taken packet) = codes " " ++ packet_text packet
reply_rest (Sent sends) = sends_text sends
reply_rest reply = option_map_or field_text (number_of reply) []

-- a reply
abbrev pub reply_text : {A : Type 0} → Reply A → List ℕ
reply_text reply = reply_name reply ++ reply_rest reply

-- what stands behind the word of an event
abbrev pub event_rest : {A : Type 0} → Event A → List ℕ
event_rest Connect = []
event_rest (Close c) = field_text c
event_rest (Admit c d) = field_text c ++ codes " " ++ packet_text d
event_rest (Route t) = field_text t
event_rest (Take c) = field_text c
event_rest (Originate d) = codes " " ++ packet_text d

-- an event
abbrev pub event_text : {A : Type 0} → Event A → List ℕ
event_text event = event_name (word_of event) ++ event_rest event

-- the line of a step, without its line feed: `ACTOR EVENT = REPLY`
abbrev pub step_line : {A : Type 0} → Step A → List ℕ
step_line step = decimal step.actor ++ codes " " ++ event_text step.event ++ codes " = " ++ reply_text step.reply

-- the text of a step
abbrev pub step_text : {A : Type 0} → Step A → List ℕ
step_text step = step_line step ++ codes "\n"
