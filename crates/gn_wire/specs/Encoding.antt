-- The bytes of a header and of a descriptor.
use Rattle.std.specs.Prelude.{◌≡◌, ◌<◌, ◌^◌, ℕ, List, [], ◌∷◌, ◌++◌, length, take, drop, slice_index, None, Result, Ok, Err}
use Rattle.std.specs.Option.{option_map_or}
use Rattle.byteorder.specs.Endian.{little_bytes, little_number}
use Rattle.gn_wire.specs.declared.header.FrameFault.{FrameFault}
use Rattle.gn_wire.specs.declared.header.Header.{Header}
use Rattle.gn_wire.specs.Packet.{code_of, kind_of, IsStored, fault_of, IsDescriptor, Packet}

-- the 23 bytes of a header: ID, payload descriptor, TTL, Hops, and the length in four bytes, the least first
abbrev pub header_bytes : Header → List ℕ
header_bytes h = h.id.0 ++ (code_of h.kind ∷ h.ttl ∷ h.hops ∷ little_bytes 4 h.length)

-- the header of a descriptor
abbrev pub header_of : Packet → Header
header_of d = record { id = d.id; kind = d.kind; ttl = d.ttl; hops = d.hops; length = length d.payload }

-- the descriptor of a header and its payload
abbrev pub packet_from : Header → List ℕ → Packet
packet_from h payload = record { id = h.id; kind = h.kind; ttl = h.ttl; hops = h.hops; payload = payload }

-- the encoding of a descriptor: its header, then its payload
abbrev pub bytes_of : Packet → List ℕ
bytes_of d = header_bytes (record { id = d.id; kind = d.kind; ttl = d.ttl; hops = d.hops; length = length d.payload }) ++ d.payload

-- the header that 23 bytes say, each field at its place
abbrev pub header_at : List ℕ → Header
header_at bytes =
    record { id = record { 0 = take 16 bytes }; kind = kind_of (slice_index bytes 16); ttl = slice_index bytes 17; hops = slice_index bytes 18; length = little_number 4 (drop 19 bytes) }

-- what is read: the header, where its length is valid, else the fault
abbrev pub reading : List ℕ → Result Header FrameFault
reading bytes = let h = header_at bytes in option_map_or Err (fault_of h.kind h.length) (Ok h)

-- a header: an ID of 16 bytes, a kind as descriptors store it, and a valid length that four bytes hold
pub record IsHeader (h : Header) : Type 0 where
  pub id_size : length h.id.0 ≡ 16
  pub stored : IsStored h.kind
  pub length_fits : h.length < 2 ^ 32
  pub valid : fault_of h.kind h.length ≡ None

-- what is written is read: the bytes of a header are read as that header; where 23 bytes are read as a header, they are its
-- bytes; and what 23 bytes are read as is a header
pub record HeadersReturn : Type 0 where
  pub written : (h : Header) → IsHeader h → reading (header_bytes h) ≡ Ok h
  pub read : (bytes : List ℕ) (h : Header) → length bytes ≡ 23 → ((k : ℕ) → slice_index bytes k < 256) → reading bytes ≡ Ok h → header_bytes h ≡ bytes
  pub found : (bytes : List ℕ) (h : Header) → length bytes ≡ 23 → ((k : ℕ) → slice_index bytes k < 256) → reading bytes ≡ Ok h → IsHeader h

-- no encoding begins another: a stream that begins with two encodings begins with one
abbrev pub EncodingsPart : Type 0
EncodingsPart =
    (d e : Packet) (rest : List ℕ) → IsDescriptor d → IsDescriptor e → bytes_of e ≡ bytes_of d ++ rest → (e ≡ d) × (rest ≡ [])
