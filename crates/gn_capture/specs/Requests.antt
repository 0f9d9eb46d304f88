-- The requests that a capture's local servent sends.
use Rattle.std.specs.Prelude.{ℕ, Bool, ◌&&◌, not, nat_le, if◌then◌else◌, List, [], ◌∷◌, length, Result, Ok, Err}
use Rattle.gn_wire.specs.declared.kind.Guid.{Guid}
use Rattle.gn_wire.specs.declared.kind.Kind.TheVariants.{Ping, Query}
use Rattle.gn_wire.specs.Packet.{Packet}
use Rattle.gn_payload.specs.Fields.{QueryFields}
use Rattle.gn_payload.specs.Refusals.{has_zero}
use Rattle.gn_payload.specs.Encoding.{query_bytes}
use Rattle.gn_text.specs.Bytes.{bytes_parsed, guid_of}
use Rattle.gn_numbers.specs.Numbers.{number_below}
use Rattle.gn_numbers.specs.declared.causes.Cause.{Cause}
use Rattle.gn_numbers.specs.declared.causes.Cause.TheVariants.{Fields, Field}
use Rattle.gn_text.specs.Faults.{◌>>=◌}
use Rattle.gn_capture.specs.Outcomes.{parsed}

-- a Ping that comes from here
abbrev pub own_ping : Guid → ℕ → Packet
own_ping id ttl = record { id = id; kind = Ping; ttl = ttl; hops = 0; payload = [] }

-- a Query that comes from here, with no tail
abbrev pub own_query : Guid → ℕ → ℕ → List ℕ → Packet
own_query id ttl speed text =
    let query : QueryFields = record { speed = speed; text = text; tail = [] } in
    record { id = id; kind = Query; ttl = ttl; hops = 0; payload = query_bytes query }

-- bytes that are a Query's text: none is zero, and the Query isn't too long
abbrev pub is_text : List ℕ → Bool
is_text bytes = not (has_zero bytes) && nat_le (length bytes) 65533

-- the Query of these fields, where the bytes are a Query's text
abbrev pub query_from : Guid → ℕ → ℕ → List ℕ → Result Packet Cause
query_from id ttl speed bytes = if is_text bytes then Ok (own_query id ttl speed bytes) else Err Field

-- the Ping of a ping line: its ID and TTL
abbrev pub ping_of : List (List ℕ) → Result Packet Cause
ping_of (id ∷ ttl ∷ []) = do
  guid ← parsed (guid_of id)
  hops_left ← parsed (number_below 256 ttl)
  Ok (own_ping guid hops_left)
ping_of _ = Err Fields

-- the Query of a speed and a text in hex
abbrev pub query_after : Guid → ℕ → List ℕ → List ℕ → Result Packet Cause
query_after id ttl speed hex = do
  least ← parsed (number_below 65536 speed)
  bytes ← parsed (bytes_parsed hex)
  query_from id ttl least bytes

-- the Query of a query line: its ID, TTL, speed and text
abbrev pub query_of : List (List ℕ) → Result Packet Cause
query_of (id ∷ ttl ∷ speed ∷ hex ∷ []) = do
  guid ← parsed (guid_of id)
  hops_left ← parsed (number_below 256 ttl)
  query_after guid hops_left speed hex
query_of _ = Err Fields
