-- What waits for each neighbour.
use Rattle.std.specs.Prelude.{◌≡◌, ◌≤◌, ◌==◌, not, ℕ, Bool, false, nat_eq, nat_lt, if◌then◌else◌, filter, map, drop, List, [], ◌∷◌, ◌++◌, length, Option}
use Rattle.std.specs.List.{All, slice_get}
use Rattle.std.specs.List.Sorted.{IsStrictlyIncreasing}
use Rattle.std.specs.Map.{lookup, keys_of, values_of}
use Rattle.std.specs.Option.{option_map_or, option_and_then}
use Rattle.circular_buffer.specs.Buffer.{Buffer}
use Rattle.gn_wire.specs.Packet.{Packet}

-- the neighbours, ascending, each with the packets that wait for it, the first to go first; and how many neighbours there
-- may be, and how many packets may wait for each
pub record Outputs : Type 0 where
  pub rows : List (ℕ × List Packet)
  pub most : ℕ
  pub room : ℕ

-- the packets that wait for a neighbour
abbrev pub output_of : ℕ → Outputs → Option (List Packet)
output_of c o = lookup (nat_eq c) o.rows

-- whether one more packet may wait for it
abbrev pub has_room : ℕ → Outputs → Bool
has_room c o = option_map_or (λ packets. nat_lt (length packets) o.room) (output_of c o) false

-- the first packet that waits for it
abbrev pub first_of : ℕ → Outputs → Option Packet
first_of c o = option_and_then (λ packets. slice_get packets 0) (output_of c o)

-- a row whose packets are changed where it is the neighbour's
abbrev pub row_with : ℕ → (List Packet → List Packet) → ℕ × List Packet → ℕ × List Packet
row_with c change r = (r.0, (if r.0 == c then change r.1 else r.1))

-- the output queues after a packet is put after the others of the neighbour
abbrev pub pushed : ℕ → Packet → Outputs → Outputs
pushed c packet o = record o { rows = map (row_with c (λ packets. packets ++ packet ∷ [])) o.rows }

-- the output queues after the first packet of the neighbour is taken
abbrev pub popped : ℕ → Outputs → Outputs
popped c o = record o { rows = map (row_with c (drop 1)) o.rows }

-- the output queues with one more neighbour after the others, for which nothing waits
abbrev pub joined : ℕ → Outputs → Outputs
joined c o = record o { rows = o.rows ++ (c, []) ∷ [] }

-- the output queues without a neighbour
abbrev pub left : ℕ → Outputs → Outputs
left c o = record o { rows = filter (λ r. not (r.0 == c)) o.rows }

-- what every table keeps: not too many neighbours, ascending, and none with too many packets
pub record AreOutputs (o : Outputs) : Type 0 where
  pub few : length o.rows ≤ o.most
  pub ascending : IsStrictlyIncreasing (keys_of o.rows)
  pub short : All (λ r. length r.1 ≤ o.room) o.rows

-- the rows that the entries of a table show
abbrev pub row_of : ℕ × Buffer Packet → ℕ × List Packet
row_of e = (e.0, e.1.items)

-- the rows that the entries of a table show
abbrev pub rows_of : List (ℕ × Buffer Packet) → List (ℕ × List Packet)
rows_of entries = map row_of entries

-- the output queues of such a table
abbrev pub outputs_of : ℕ → ℕ → List (ℕ × Buffer Packet) → Outputs
outputs_of most room entries = record { rows = rows_of entries; most = most; room = room }

-- a ring that has room for so many packets, and no more in it
abbrev pub IsRing : ℕ → Buffer Packet → Type 0
IsRing room ring = (ring.capacity ≡ room) × (length ring.items ≤ room)

-- what the entries of a table keep, within the limits of a router
pub record AreRings (entries : List (ℕ × Buffer Packet)) (most room : ℕ) : Type 0 where
  pub few : length entries ≤ most
  pub most_fits : most ≤ 256
  pub room_fits : room ≤ 4096
  pub ascending : IsStrictlyIncreasing (keys_of entries)
  pub rings : All (IsRing room) (values_of entries)
