-- What a step is as JSON. The members of an object ascend by their names.
use Rattle.std.specs.Prelude.{ℕ, if◌then◌else◌, List, map, codes, Option, Some, None}
use Rattle.std.specs.Str.{is_utf8}
use Rattle.std.specs.declared.alloc.Global.{Global}
use Rattle.hex.specs.Hex.{encode_lower}
use Rattle.serde_json.specs.Data.{Data, number, unsigned, boolean, string, array, object, Members, member, no_members}
use Rattle.serde_json.specs.View.{items_of}
use Rattle.gn_wire.specs.Packet.{code_of, Packet}
use Rattle.gn_payload.specs.declared.pong.Pong.{Pong}
use Rattle.gn_payload.specs.declared.push.Push.{Push}
use Rattle.gn_payload.specs.Fields.{QueryFields, ResultFields, HitFields}
use Rattle.gn_payload.specs.Reading.{Read, reading}
use Rattle.gn_payload.specs.Reading.Read.{Empty, OfPong, OfPush, OfQuery, OfHit}
use Rattle.gn_rules.specs.Flight.{Admission}
use Rattle.gn_rules.specs.declared.event.Event.{Event}
use Rattle.gn_rules.specs.declared.event.Event.TheVariants as event
use Rattle.gn_rules.specs.declared.receipt.Step.{Step}
use Rattle.gn_rules.specs.declared.reply.Reply.{Reply}
use Rattle.gn_rules.specs.declared.reply.Reply.TheVariants as reply
use Rattle.gn_rules.specs.declared.sends.Sending.{Sending}
use Rattle.gn_rules.specs.Statistics.{counter_of}
use Rattle.gn_numbers.specs.Names.{counter_name, event_name, kind_names, word_of}
use Rattle.gn_text.specs.Addresses.{ip_text}

-- a number
abbrev pub number_data : ℕ → Data
number_data n = number (unsigned n)

-- bytes in hex digits of lower case
abbrev pub hex_data : List ℕ → Data
hex_data bytes = string (encode_lower bytes)

-- an address in dotted decimal
abbrev pub ip_data : List ℕ → Data
ip_data ip = string (ip_text ip)

-- a text that is UTF-8 under its name; the bytes of another in hex, under the other name
abbrev pub text_member : List ℕ → List ℕ → List ℕ → Members → Members
text_member name hex_name text more =
    if is_utf8 text then member name (string text) more else member hex_name (hex_data text) more

-- the payload of a Pong
abbrev pub pong_data : Pong → Data
pong_data p =
    object (member (codes "files") (number_data p.files) (member (codes "ip") (ip_data p.ip)
    (member (codes "kilobytes") (number_data p.kbytes) (member (codes "port") (number_data p.port) no_members))))

-- the payload of a Push
abbrev pub push_data : Push → Data
push_data p =
    object (member (codes "index") (number_data p.file) (member (codes "ip") (ip_data p.ip)
    (member (codes "port") (number_data p.port) (member (codes "servent") (hex_data p.servent.0) no_members))))

-- the payload of a Query
abbrev pub query_data : QueryFields → Data
query_data q =
    object (member (codes "minimum_speed") (number_data q.speed) (member (codes "tail_hex") (hex_data q.tail)
    (text_member (codes "text") (codes "text_hex") q.text no_members)))

-- a result of a Query Hit
abbrev pub result_data : ResultFields → Data
result_data r =
    object (member (codes "extra_hex") (hex_data r.extra) (member (codes "index") (number_data r.file)
    (text_member (codes "name") (codes "name_hex") r.name (member (codes "size") (number_data r.size) no_members))))

-- the payload of a Query Hit
abbrev pub hit_data : HitFields → Data
hit_data h =
    object (member (codes "ip") (ip_data h.ip) (member (codes "port") (number_data h.port)
    (member (codes "results") (array (items_of (map result_data h.results))) (member (codes "servent") (hex_data h.servent.0)
    (member (codes "speed") (number_data h.speed) (member (codes "trailer_hex") (hex_data h.trailer) no_members))))))

-- a payload that has no reading
abbrev pub unread_data : List ℕ → Data
unread_data bytes = object (member (codes "unread_hex") (hex_data bytes) no_members)

-- what a payload says: of a Ping an object of nothing
abbrev pub read_data : Read → Data
read_data Empty = object no_members
read_data (OfPong p) = pong_data p
read_data (OfPush p) = push_data p
read_data (OfQuery q) = query_data q
read_data (OfHit h) = hit_data h

-- a payload of this reading, where it has one
abbrev pub payload_data : List ℕ → Option Read → Data
payload_data bytes (Some read) = read_data read
payload_data bytes None = unread_data bytes

-- a descriptor
abbrev pub descriptor_data : Packet → Data
descriptor_data d =
    object (member (codes "code") (number_data (code_of d.kind)) (member (codes "hops") (number_data d.hops)
    (member (codes "id") (hex_data d.id.0) (member (codes "kind") (string ((kind_names d.kind).json))
    (member (codes "payload") (payload_data d.payload (reading d.kind d.payload)) (member (codes "ttl") (number_data d.ttl)
    no_members))))))

-- a send
abbrev pub sending_data : Sending Global → Data
sending_data s =
    object (member (codes "connection") (number_data s.to) (member (codes "descriptor") (descriptor_data s.packet)
    (member (codes "queued") (boolean s.queued) no_members)))

-- sends, in order
abbrev pub sends_data : List (Sending Global) → Data
sends_data sends = array (items_of (map sending_data sends))

-- an event or a reply of this kind, with no more to say than that
abbrev pub kind_data : List ℕ → Data
kind_data kind = object (member (codes "kind") (string kind) no_members)

-- an event or a reply of this kind, with a member that comes before the kind
abbrev pub before_kind : List ℕ → Data → List ℕ → Data
before_kind name value kind = object (member name value (member (codes "kind") (string kind) no_members))

-- an event or a reply of this kind, with a member that comes after the kind
abbrev pub after_kind : List ℕ → List ℕ → Data → Data
after_kind kind name value = object (member (codes "kind") (string kind) (member name value no_members))

-- a Route of this ticket, behind its kind; of an admission that waits under it also which connection brought it, and its descriptor
abbrev pub route_data : List ℕ → Option Admission → ℕ → Data
route_data kind None t = after_kind kind (codes "ticket") (number_data t)
route_data kind (Some a) t =
    object (member (codes "descriptor") (descriptor_data a.packet) (member (codes "from") (number_data a.origin)
    (member (codes "kind") (string kind) (member (codes "ticket") (number_data t) no_members))))

-- an event of this name that speaks of this packet
abbrev pub event_as : List ℕ → Option Admission → Event Global → Data
event_as kind a event.Connect = kind_data kind
event_as kind a (event.Close c) = before_kind (codes "connection") (number_data c) kind
event_as kind a (event.Admit c d) =
    object (member (codes "connection") (number_data c) (member (codes "descriptor") (descriptor_data d)
    (member (codes "kind") (string kind) no_members)))
event_as kind a (event.Route t) = route_data kind a t
event_as kind a (event.Take c) = before_kind (codes "connection") (number_data c) kind
event_as kind a (event.Originate d) = before_kind (codes "descriptor") (descriptor_data d) kind

-- an event that speaks of this packet
abbrev pub event_data : Option Admission → Event Global → Data
event_data a event = event_as (event_name (word_of event)) a event

-- a reply whose counter has this name; of a drop that is the reason
abbrev pub reply_as : List ℕ → Reply Global → Data
reply_as kind (reply.Connected c) = before_kind (codes "connection") (number_data c) kind
reply_as kind (reply.Closed count) = before_kind (codes "discarded") (number_data count) kind
reply_as kind (reply.Admitted t) = after_kind kind (codes "ticket") (number_data t)
reply_as kind (reply.Routed sends local) =
    object (member (codes "kind") (string kind) (member (codes "local") (boolean local)
    (member (codes "sends") (sends_data sends) no_members)))
reply_as kind (reply.Dropped reason) = after_kind (codes "dropped") (codes "reason") (string kind)
reply_as kind (reply.Taken d) = before_kind (codes "descriptor") (descriptor_data d) kind
reply_as kind (reply.Sent sends) = after_kind kind (codes "sends") (sends_data sends)
reply_as kind r = kind_data kind

-- a reply
abbrev pub reply_data : Reply Global → Data
reply_data reply = reply_as (counter_name (counter_of reply)) reply

-- a step with its index, whose event speaks of this packet
abbrev pub step_data : Option Admission → ℕ → Step Global → Data
step_data a index step =
    object (member (codes "actor") (number_data step.actor) (member (codes "event") (event_data a step.event)
    (member (codes "reply") (reply_data step.reply) (member (codes "step") (number_data index) no_members))))
