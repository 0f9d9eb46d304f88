-- What payloads say, as plain values, and where a field stands in a payload.
use Rattle.std.specs.Prelude.{ℕ, List, ◌-◌, length, take, drop}
use Rattle.gn_wire.specs.declared.kind.Guid.{Guid}
use Rattle.byteorder.specs.Endian.{little_number}

-- a Query: the least speed asked for, the text that is looked for, and bytes that version 0.4 doesn't name
pub record QueryFields : Type 0 where
  pub speed : ℕ
  pub text : List ℕ
  pub tail : List ℕ

-- one result of a Query Hit: a file's index and size, its name, and the bytes between the zero byte after the name and the next one
pub record ResultFields : Type 0 where
  pub file : ℕ
  pub size : ℕ
  pub name : List ℕ
  pub extra : List ℕ

-- a Query Hit: where the servent is reached, its results, bytes that version 0.4 doesn't name, and its ID
pub record HitFields : Type 0 where
  pub port : ℕ
  pub ip : List ℕ
  pub speed : ℕ
  pub results : List ResultFields
  pub trailer : List ℕ
  pub servent : Guid

-- the number in `width` bytes from a place on, the least byte first
abbrev pub number_at : ℕ → ℕ → List ℕ → ℕ
number_at width place bytes = little_number width (drop place bytes)

-- so many bytes from a place on
abbrev pub bytes_at : ℕ → ℕ → List ℕ → List ℕ
bytes_at count place bytes = take count (drop place bytes)

-- the servent that a Push is for: its first 16 bytes
abbrev pub push_servent : List ℕ → Guid
push_servent bytes = record { 0 = take 16 bytes }

-- the servent that a Query Hit is from: its last 16 bytes
abbrev pub hit_servent : List ℕ → Guid
hit_servent bytes = record { 0 = drop (length bytes - 16) bytes }

-- what stands in a Query Hit between its first 11 bytes and its last 16
abbrev pub hit_middle : List ℕ → List ℕ
hit_middle bytes = bytes_at (length bytes - 27) 11 bytes
