-- The line of a step in plain words.
use Rattle.std.specs.Prelude.{ℕ, Bool, true, false, ◌-◌, ◌/◌, ◌%◌, ◌==◌, ◌||◌, if◌then◌else◌, List, [], ◌∷◌, ◌++◌, codes, decimal, length, replicate, take, Option, Some, None}
use Rattle.std.specs.Char.{encode_utf8}
use Rattle.std.specs.Int.{is_in_range}
use Rattle.std.specs.List.{flat_map}
use Rattle.std.specs.Str.{chars, is_utf8}
use Rattle.std.specs.declared.alloc.Global.{Global}
use Rattle.hex.specs.Hex.{encode_lower}
use Rattle.serde_json.specs.Data.{string}
use Rattle.serde_json.specs.Written.{compact_text}
use Rattle.gn_wire.specs.Packet.{Packet}
use Rattle.gn_wire.specs.declared.kind.Guid.{Guid}
use Rattle.gn_wire.specs.declared.kind.Kind.{Kind}
use Rattle.gn_wire.specs.declared.kind.Kind.TheVariants.{Unknown}
use Rattle.gn_payload.specs.declared.pong.Pong.{Pong}
use Rattle.gn_payload.specs.declared.push.Push.{Push}
use Rattle.gn_payload.specs.Fields.{QueryFields, ResultFields, HitFields}
use Rattle.gn_payload.specs.Reading.{Read, reading}
use Rattle.gn_payload.specs.Reading.Read.{Empty, OfPong, OfPush, OfQuery, OfHit}
use Rattle.gn_rules.specs.declared.event.Event.{Event}
use Rattle.gn_rules.specs.declared.event.Event.TheVariants as event
use Rattle.gn_rules.specs.declared.receipt.Step.{Step}
use Rattle.gn_rules.specs.declared.reply.Reply.{Reply}
use Rattle.gn_rules.specs.declared.reply.Reply.TheVariants as reply
use Rattle.gn_rules.specs.declared.sends.Sending.{Sending}
use Rattle.gn_rules.specs.Statistics.{counter_of}
use Rattle.gn_numbers.specs.Names.{counter_name, kind_names, reason_name}
use Rattle.gn_text.specs.Addresses.{ip_text}

-- a text at the right of a column; a longer one stands whole
abbrev pub shifted : ℕ → List ℕ → List ℕ
shifted width text = replicate (width - length text) 32 ++ text

-- a text at the left of a column; a longer one stands whole
abbrev pub aligned : ℕ → List ℕ → List ℕ
aligned width text = text ++ replicate (width - length text) 32

-- the first four bytes of an ID
abbrev pub id_words : Guid → List ℕ
id_words id = encode_lower (take 4 id.0) ++ codes ".."

-- an address and a port
abbrev pub place_words : List ℕ → ℕ → List ℕ
place_words ip port = ip_text ip ++ codes ":" ++ decimal port

-- a character on which a terminal or a reader of lines may act: U+007F and the controls to U+009F, the separators of lines and of
-- paragraphs, and the marks of direction
abbrev pub acts : ℕ → Bool
acts c = is_in_range 0x7F 0x9F c || c == 0x61C || is_in_range 0x200E 0x200F c || is_in_range 0x2028 0x202E c || is_in_range 0x2066 0x2069 c

-- a character as it stands in quotes; one that acts as JSON escapes it
abbrev pub char_words : ℕ → List ℕ
char_words c = if acts c then codes "\\u" ++ encode_lower (c / 256 ∷ c % 256 ∷ []) else encode_utf8 c

-- a text in quotes, as in JSON, where it is UTF-8, with no character that acts; the bytes of another in hex
abbrev pub text_words : List ℕ → List ℕ
text_words text = if is_utf8 text then flat_map char_words (chars (compact_text (string text))) else codes "hex " ++ encode_lower text

-- the payload of a Pong
abbrev pub pong_words : Pong → List ℕ
pong_words p =
    codes " " ++ place_words p.ip p.port ++ codes " " ++ decimal p.files ++ codes " files " ++ decimal p.kbytes ++ codes " kB"

-- the payload of a Push
abbrev pub push_words : Push → List ℕ
push_words p =
    codes " servent " ++ id_words p.servent ++ codes " file " ++ decimal p.file ++ codes " to " ++ place_words p.ip p.port

-- the payload of a Query
abbrev pub query_words : QueryFields → List ℕ
query_words q = codes " " ++ text_words q.text ++ codes " speed " ++ decimal q.speed

-- a result of a Query Hit
abbrev pub result_words : ResultFields → List ℕ
result_words r =
    codes ", file " ++ decimal r.file ++ codes " " ++ text_words r.name ++ codes " of " ++ decimal r.size ++ codes " bytes"

-- the results of a Query Hit
abbrev pub results_words : List ResultFields → List ℕ
results_words results = flat_map result_words results

-- the payload of a Query Hit
abbrev pub hit_words : HitFields → List ℕ
hit_words h =
    codes " servent " ++ id_words h.servent ++ codes " " ++ place_words h.ip h.port ++ codes " speed " ++ decimal h.speed
    ++ results_words h.results

-- a payload that has no reading
abbrev pub unread_words : List ℕ → List ℕ
unread_words bytes = codes " unread " ++ encode_lower bytes

-- what a payload says: of a Ping nothing
abbrev pub read_words : Read → List ℕ
read_words Empty = []
read_words (OfPong p) = pong_words p
read_words (OfPush p) = push_words p
read_words (OfQuery q) = query_words q
read_words (OfHit h) = hit_words h

-- a payload of this reading, where it has one
abbrev pub payload_words : List ℕ → Option Read → List ℕ
payload_words bytes (Some read) = read_words read
payload_words bytes None = unread_words bytes

-- the code of a kind that version 0.4 doesn't name
abbrev pub code_words : Kind → List ℕ
code_words (Unknown code) = codes " " ++ decimal code
code_words kind = []

-- a kind
abbrev pub kind_words : Kind → List ℕ
kind_words kind = (kind_names kind).title ++ code_words kind

-- a descriptor: its kind, its TTL and Hops, its ID, and what its payload says
abbrev pub descriptor_words : Packet → List ℕ
descriptor_words d =
    kind_words d.kind ++ codes " " ++ decimal d.ttl ++ codes "/" ++ decimal d.hops ++ codes " " ++ id_words d.id
    ++ payload_words d.payload (reading d.kind d.payload)

-- what stands between a send's connection and its descriptor: it was queued, or lost
abbrev pub queued_words : Bool → List ℕ
queued_words true = codes ": "
queued_words false = codes " lost: "

-- a send
abbrev pub sending_words : Sending Global → List ℕ
sending_words s = codes "; to " ++ decimal s.to ++ queued_words s.queued ++ descriptor_words s.packet

-- sends, in order
abbrev pub sends_words : List (Sending Global) → List ℕ
sends_words sends = flat_map sending_words sends

-- an event
abbrev pub event_words : Event Global → List ℕ
event_words event.Connect = codes "connects"
event_words (event.Close c) = codes "closes " ++ decimal c
event_words (event.Admit c d) = codes "from " ++ decimal c ++ codes ": " ++ descriptor_words d
event_words (event.Route t) = codes "routes #" ++ decimal t
event_words (event.Take c) = codes "takes for " ++ decimal c
event_words (event.Originate d) = codes "own: " ++ descriptor_words d

-- whether the local servent gets what was routed
abbrev pub routed_words : Bool → List ℕ
routed_words true = codes "routed here"
routed_words false = codes "routed"

-- a reply; one that has nothing to add is the name of its counter
abbrev pub reply_words : Reply Global → List ℕ
reply_words (reply.Connected c) = codes "connected as " ++ decimal c
reply_words reply.TooMany = codes "too many"
reply_words (reply.Closed count) = codes "closed, discarded " ++ decimal count
reply_words (reply.Admitted t) = codes "admitted as #" ++ decimal t
reply_words (reply.Routed sends local) = routed_words local ++ sends_words sends
reply_words (reply.Dropped reason) = codes "dropped " ++ reason_name reason
reply_words (reply.Taken d) = descriptor_words d
reply_words (reply.Sent sends) = codes "sent" ++ sends_words sends
reply_words r = counter_name (counter_of r)

-- the line of a step, in columns: its index, its actor, its event and its reply
abbrev pub plain_line : ℕ → Step Global → List ℕ
plain_line index step =
    shifted 7 (decimal index) ++ codes "  actor " ++ shifted 3 (decimal step.actor) ++ codes "  "
    ++ aligned 32 (event_words step.event) ++ codes "  " ++ reply_words step.reply ++ codes "\n"
