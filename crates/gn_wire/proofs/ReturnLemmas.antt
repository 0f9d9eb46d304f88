-- Headers read back from their bytes, and bytes from their header.
use Rattle.std.proofs.Common.{◌≡◌, ◌<◌, ℕ, List, length, get_or, Option, Some, None, Ok, Err, refl, sym, ap, subst, arith, ◌∙◌}
use Rattle.std.specs.Option.{option_map_or}
use Rattle.std.proofs.lemmas.List.{length-take-le}
use Rattle.gn_wire.specs.declared.header.FrameFault.{FrameFault}
use Rattle.gn_wire.specs.declared.header.Header.{Header}
use Rattle.gn_wire.specs.Packet.{fault_of}
use Rattle.gn_wire.specs.Encoding.{IsHeader, HeadersReturn, header_at, header_bytes, reading}
use Rattle.gn_wire.proofs.HeaderLemmas.{header_at-header_bytes, header_bytes-header_at}
use Rattle.gn_wire.proofs.KindLemmas.{stored-kind_of}
use Rattle.gn_wire.proofs.EncodingLemmas.{valid_short}

-- what is read is what the bytes say
known_by : (fault : Option FrameFault) (g h : Header) → option_map_or Err fault (Ok g) ≡ Ok h → g ≡ h
known_by None g h is = cc
known_by (Some fault) g h is = absurd (cc)

written : (h : Header) → IsHeader h → reading (header_bytes h) ≡ Ok h
written h is =
    ap (λ (g : Header). option_map_or Err (fault_of g.kind g.length) (Ok g)) (header_at-header_bytes h is.id_size is.length_fits is.stored)
    ∙ ap (λ (f : Option FrameFault). option_map_or Err f (Ok h)) is.valid

read : (bytes : List ℕ) (h : Header) → length bytes ≡ 23 → ((k : ℕ) → get_or bytes k 0 < 256) → reading bytes ≡ Ok h → header_bytes h ≡ bytes
read bytes h e fits is =
    ap header_bytes (sym (known_by (fault_of (header_at bytes).kind (header_at bytes).length) (header_at bytes) h is)) ∙ header_bytes-header_at bytes e fits

-- what is read has no fault
valid_by : (fault : Option FrameFault) (g h : Header) → option_map_or Err fault (Ok g) ≡ Ok h → fault ≡ None
valid_by None g h is = refl
valid_by (Some fault) g h is = absurd (cc)

-- what 23 bytes say is a header, where its length is valid
known_is_header : (bytes : List ℕ) → length bytes ≡ 23 → fault_of (header_at bytes).kind (header_at bytes).length ≡ None → IsHeader (header_at bytes)
known_is_header bytes e valid =
    record {
      id_size = length-take-le 16 bytes (omega arith);
      stored = stored-kind_of (get_or bytes 16 0);
      length_fits = valid_short (header_at bytes).kind (header_at bytes).length valid;
      valid = valid;
    }

found : (bytes : List ℕ) (h : Header) → length bytes ≡ 23 → ((k : ℕ) → get_or bytes k 0 < 256) → reading bytes ≡ Ok h → IsHeader h
found bytes h e fits is =
    let fault = fault_of (header_at bytes).kind (header_at bytes).length in
    subst IsHeader (known_by fault (header_at bytes) h is) (known_is_header bytes e (valid_by fault (header_at bytes) h is))

pub headers_return : HeadersReturn
headers_return = record { written = written; read = read; found = found }
