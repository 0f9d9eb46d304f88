-- The rows of comma-separated fields: one for each packet that is admitted, refused, sent, dropped or taken.
use Rattle.std.specs.Prelude.{ℕ, Bool, true, false, if◌then◌else◌, List, [], ◌∷◌, ◌++◌, codes, decimal, length, map, Option, Some, None, option_map}
use Rattle.std.specs.List.{flat_map}
use Rattle.std.specs.Option.{option_map_or}
use Rattle.std.specs.declared.alloc.Global.{Global}
use Rattle.csv.specs.Writing.{default_writer, row_text}
use Rattle.hex.specs.Hex.{encode_lower}
use Rattle.gn_wire.specs.Packet.{Packet}
use Rattle.gn_rules.specs.Flight.{Admission}
use Rattle.gn_rules.specs.declared.event.Event.{Event}
use Rattle.gn_rules.specs.declared.event.Event.TheVariants as event
use Rattle.gn_rules.specs.declared.receipt.Step.{Step}
use Rattle.gn_rules.specs.declared.reply.Reply.{Reply}
use Rattle.gn_rules.specs.declared.reply.Reply.TheVariants as reply
use Rattle.gn_rules.specs.declared.sends.Sending.{Sending}
use Rattle.gn_rules.specs.Statistics.{counter_of}
use Rattle.gn_numbers.specs.Names.{counter_name, event_name, kind_names, word_of}
use Rattle.gn_show.specs.Subjects.{subject, waiting}
use Rattle.gn_show.specs.Times.{Place}

-- what a row says of a packet: from which connection it came, to which it goes, 0 for this router, and whether it was queued there
pub record Row : Type 0 where
  pub from : Option ℕ
  pub to : Option ℕ
  pub packet : Option Packet
  pub queued : Option Bool

-- a number, where there is one
abbrev pub number_field : Option ℕ → List ℕ
number_field number = option_map_or decimal number []

-- whether a packet was queued
abbrev pub queued_field : Option Bool → List ℕ
queued_field None = []
queued_field (Some true) = codes "1"
queued_field (Some false) = codes "0"

-- the kind of a packet, its ID, its TTL and Hops, and the length of its payload
abbrev pub packet_fields : Option Packet → List (List ℕ)
packet_fields None = [] ∷ [] ∷ [] ∷ [] ∷ [] ∷ []
packet_fields (Some d) = (kind_names d.kind).json ∷ encode_lower d.id.0 ∷ decimal d.ttl ∷ decimal d.hops ∷ decimal (length d.payload) ∷ []

-- whose output an event takes from
abbrev pub taker : Event Global → Option ℕ
taker (event.Take c) = Some c
taker event = None

-- which connection brought a packet
abbrev pub origin_of : Option Admission → Option ℕ
origin_of a = option_map (λ a. a.origin) a

-- the packet that was brought
abbrev pub packet_of : Option Admission → Option Packet
packet_of a = option_map (λ a. a.packet) a

-- the row of an event's own packet, which goes to no connection, or to this router
abbrev pub own_row : Option Admission → Option ℕ → Row
own_row a to = record { from = origin_of a; to = to; packet = packet_of a; queued = None }

-- the row of a send
abbrev pub send_row : Option Admission → Sending Global → Row
send_row a s = record { from = origin_of a; to = Some s.to; packet = Some s.packet; queued = Some s.queued }

-- the row of a packet that was taken
abbrev pub taken_row : Event Global → Packet → Row
taken_row event d = record { from = None; to = taker event; packet = Some d; queued = None }

-- the rows of a step whose event speaks of this packet; where the packet is admitted, refused or dropped it has one of its own
abbrev pub rows_by : Option Admission → Event Global → Reply Global → List Row
rows_by a event (reply.Connected c) = []
rows_by a event reply.TooMany = []
rows_by a event (reply.Closed count) = []
rows_by a event (reply.Routed sends local) = map (send_row a) sends ++ (if local then own_row a (Some 0) ∷ [] else [])
rows_by a event (reply.Sent sends) = map (send_row a) sends
rows_by a event (reply.Taken d) = taken_row event d ∷ []
rows_by a event r = own_row a None ∷ []

-- the line of a row of a step
abbrev pub row_line : Place → Step Global → Row → List ℕ
row_line place step row =
    row_text default_writer (decimal place.index ∷ place.time ∷ decimal step.actor ∷ event_name (word_of step.event) ∷ counter_name (counter_of step.reply)
    ∷ number_field row.from ∷ number_field row.to ∷ (packet_fields row.packet ++ (queued_field row.queued ∷ [])))

-- the line of the packet that a step's event speaks of
abbrev pub own_line : Option Admission → Place → Step Global → Option ℕ → List ℕ
own_line a place step to = row_line place step (own_row a to)

-- the line of a send
abbrev pub send_line : Option Admission → Place → Step Global → Sending Global → List ℕ
send_line a place step s = row_line place step (send_row a s)

-- the lines of the rows of a step whose event speaks of this packet
abbrev pub lines_of : Option Admission → Place → Step Global → List ℕ
lines_of a place step = flat_map (row_line place step) (rows_by a step.event step.reply)

-- the lines of a step's rows, after these steps
abbrev pub step_lines : List (Step Global) → Place → Step Global → List ℕ
step_lines past place step = lines_of (subject (waiting past) step.event) place step

-- the line of the columns' names
abbrev pub heading : List ℕ
heading = codes "step,t,actor,event,reply,connection,to,kind,id,ttl,hops,length,queued\n"
