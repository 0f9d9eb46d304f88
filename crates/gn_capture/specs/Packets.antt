-- The descriptor that a field encodes.
use Rattle.std.specs.Prelude.{◌≡◌, ℕ, ◌+◌, ◌==◌, nat_lt, if◌then◌else◌, List, length, take, drop, Option, Some, None, Result, Ok, Err}
use Rattle.std.specs.Option.{option_and_then}
use Rattle.gn_wire.specs.declared.header.FrameFault.{FrameFault}
use Rattle.gn_wire.specs.declared.header.Header.{Header}
use Rattle.gn_wire.specs.Packet.{Packet}
use Rattle.gn_wire.specs.Encoding.{IsHeader, packet_from, reading}
use Rattle.gn_text.specs.Bytes.{bytes_parsed}

-- the descriptor of a header that was read, where its length is the payload's
abbrev pub packet_at : Result Header FrameFault → List ℕ → Option Packet
packet_at (Err fault) payload = None
packet_at (Ok h) payload = if h.length == length payload then Some (packet_from h payload) else None

-- the descriptor that bytes encode, from the first to the last
unfoldable pub packet_of : List ℕ → Option Packet
packet_of bytes = if nat_lt (length bytes) 23 then None else packet_at (reading (take 23 bytes)) (drop 23 bytes)

-- the descriptor that a field encodes in hex
abbrev pub packet_parsed : List ℕ → Option Packet
packet_parsed field = option_and_then packet_of (bytes_parsed field)

-- the header of the one descriptor that bytes encode, whose payload is all that stands after the header
pub record IsHeaderAlone (bytes : List ℕ) (h : Header) : Type 0 where
  pub header : IsHeader h
  pub size : 23 + h.length ≡ length bytes
  pub packet : packet_of bytes ≡ Some (packet_from h (drop 23 bytes))
