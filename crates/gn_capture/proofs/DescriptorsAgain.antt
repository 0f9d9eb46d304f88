-- A descriptor that is written is read again.
use Rattle.std.proofs.Common.{◌≡◌, ℕ, suc, ◌/◌, ◌%◌, ◌<◌, ◌≤◌, List, [], ◌∷◌, length, take, drop, true, false, refl, sym, ap, ◌∙◌, arith, Ok, Err, Some, append-nil, length-append}
use Rattle.std.specs.Prelude.{◌==◌, nat_lt, slice_index}
use Rattle.std.specs.Option.{option_and_then, option_map_or}
use Rattle.std.specs.Result.{result_ok}
use Rattle.std.proofs.lemmas.Bool.Decides.{nat_tests}
use Rattle.std.proofs.lemmas.List.Sums.{AllPass-from_list_all}
use Rattle.hex.specs.Hex.{encode_lower, encode_with, lower_digits, IsBytes, decode_of}
use Rattle.hex.proofs.HexLemmas.{decode_of-encode_lower, length-encode_with}
use Rattle.gn_wire.specs.declared.header.Header.{Header}
use Rattle.gn_wire.specs.Packet.{fault_of, IsDescriptor, Packet}
use Rattle.gn_wire.specs.Encoding.{bytes_of, header_at, header_bytes, header_of, reading}
use Rattle.gn_wire.proofs.EncodingLemmas.{header_at-stream, drop-stream, length-header_bytes}
use Rattle.gn_text.specs.Bytes.{bytes_of_pairs, bytes_parsed, is_dash}
use Rattle.gn_text.specs.Steps.{packet_text}
use Rattle.gn_capture.specs.Packets.{packet_at, packet_of, packet_parsed}
use Rattle.gn_capture.specs.RoundTrip.{IsPacket}
use Rattle.gn_capture.proofs.Spaced.{IsPlain, is_plain}

digit_plain : (d : ℕ) → d < 16 → is_plain (slice_index lower_digits d) ≡ true
digit_plain d h = AllPass-from_list_all is_plain lower_digits refl d 0 h

pair_plain : (x y : ℕ) (rest : List ℕ) → is_plain x ≡ true → is_plain y ≡ true → IsPlain rest → IsPlain (x ∷ y ∷ rest)
pair_plain x y rest h k l = rw (h, k, l) refl

pub hex_plain : (bs : List ℕ) → IsBytes bs → IsPlain (encode_lower bs)
unfolding encode_with
hex_plain [] h = refl
hex_plain (b ∷ bs) h =
    let small : b < 256 = h 0 in
    pair_plain (slice_index lower_digits (b / 16)) (slice_index lower_digits (b % 16)) (encode_lower bs) (digit_plain (b / 16) (omega arith)) (digit_plain (b % 16) (omega arith))
    (hex_plain bs (λ i. h (suc i)))

no_dash : (field : List ℕ) → 2 ≤ length field → is_dash field ≡ false
no_dash [] h = absurd (omega arith)
no_dash (b ∷ []) h = absurd (omega arith)
no_dash (b ∷ c ∷ more) h = refl

pairs : (field : List ℕ) → 2 ≤ length field → bytes_of_pairs field ≡ result_ok (decode_of field)
pairs [] h = absurd (omega arith)
pairs (b ∷ more) h = refl

-- bytes that are written in hex are read again, where there are some
pub bytes_again : (bs : List ℕ) → IsBytes bs → 1 ≤ length bs → bytes_parsed (encode_lower bs) ≡ Some bs
bytes_again bs h some =
    let long : 2 ≤ length (encode_lower bs) = omega (arith, length-encode_with lower_digits bs) in
    rw (no_dash (encode_lower bs) long) (pairs (encode_lower bs) long ∙ ap result_ok (decode_of-encode_lower bs h))

pub long_encoding : (d : Packet) → IsDescriptor d → 23 ≤ length (bytes_of d)
long_encoding d kept = omega (arith, length-append (header_bytes (header_of d)) d.payload, length-header_bytes (header_of d) kept.id_size)

read_again : (d : Packet) → IsDescriptor d → reading (take 23 (bytes_of d)) ≡ Ok (header_of d)
read_again d kept =
    let head : header_at (take 23 (bytes_of d)) ≡ header_of d =
    ap (λ (bs : List ℕ). header_at (take 23 bs)) (sym (append-nil (bytes_of d))) ∙ header_at-stream d [] kept in
    ap (λ (h : Header). option_map_or Err (fault_of h.kind h.length) (Ok h)) head ∙ rw kept.valid refl

payload_again : (d : Packet) → IsDescriptor d → drop 23 (bytes_of d) ≡ d.payload
payload_again d kept = ap (drop 23) (sym (append-nil (bytes_of d))) ∙ drop-stream d [] kept ∙ append-nil d.payload

made_again : (d : Packet) → packet_at (Ok (header_of d)) d.payload ≡ Some d
made_again d = let e : (length d.payload == length d.payload) ≡ true = grind (arith, nat_tests) in rw e refl

-- the descriptor that its encoding encodes
pub packet_encoded : (d : Packet) → IsDescriptor d → packet_of (bytes_of d) ≡ Some d
unfolding packet_of
packet_encoded d kept =
    let long = long_encoding d kept in
    let e : nat_lt (length (bytes_of d)) 23 ≡ false = grind (arith, nat_tests) in
    let both : packet_at (reading (take 23 (bytes_of d))) (drop 23 (bytes_of d)) ≡ Some d = rw (read_again d kept, payload_again d kept) (made_again d) in
    rw e both

pub packet_again : (d : Packet) → IsPacket d → packet_parsed (packet_text d) ≡ Some d
packet_again d h =
    let long = long_encoding d h.kept in
    ap (option_and_then packet_of) (bytes_again (bytes_of d) h.bytes (omega arith)) ∙ packet_encoded d h.kept
