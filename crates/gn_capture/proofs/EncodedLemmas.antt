-- A descriptor that was read is encoded by the bytes that it was read of.
use Rattle.std.proofs.Common.{◌≡◌, ℕ, ◌<◌, ◌≤◌, List, ◌++◌, length, get_or, take, drop, Bool, true, false, refl, sym, ap, ◌∙◌, arith, Result, Ok, Err, Option, Some, None, inl, inr}
use Rattle.std.specs.Prelude.{◌==◌, nat_lt, if◌then◌else◌}
use Rattle.std.specs.Option.{option_map_or}
use Rattle.std.proofs.lemmas.Bool.{cases_lt}
use Rattle.std.proofs.lemmas.Bool.Decides.{nat_tests}
use Rattle.std.proofs.lemmas.List.{get_or-take, get_or_past, length-take-le, take-append-drop}
use Rattle.hex.specs.Hex.{IsBytes}
use Rattle.gn_wire.specs.declared.header.FrameFault.{FrameFault}
use Rattle.gn_wire.specs.declared.header.Header.{Header}
use Rattle.gn_wire.specs.Packet.{fault_of, Packet}
use Rattle.gn_wire.specs.Encoding.{bytes_of, header_at, header_bytes, header_of, packet_from, reading}
use Rattle.gn_wire.proofs.HeaderLemmas.{header_bytes-header_at}
use Rattle.gn_capture.specs.Packets.{packet_at, packet_of}

header_by : (bs : List ℕ) (h : Header) (f : Option FrameFault) → option_map_or Err f (Ok (header_at bs)) ≡ Ok h → header_at bs ≡ h
header_by bs h None e = cc
header_by bs h (Some fault) e = absurd (cc)

header_read : (bs : List ℕ) (h : Header) → reading bs ≡ Ok h → header_at bs ≡ h
header_read bs h e = header_by bs h (fault_of (header_at bs).kind (header_at bs).length) e

head_fits : (bs : List ℕ) → 23 ≤ length bs → IsBytes bs → (k : ℕ) → get_or (take 23 bs) k 0 < 256
head_fits bs long h k =
    let size = length-take-le 23 bs long in
    elim (cases_lt k 23) [ inl below ↦ rw (get_or-take 23 bs k 0 below) (h k) | inr above ↦ rw (get_or_past (take 23 bs) k 0 (omega arith)) (omega arith) ]

header_kept : (h : Header) (payload : List ℕ) → h.length ≡ length payload → header_of (packet_from h payload) ≡ h
header_kept h payload size =
    let of : ℕ → Header = λ n. record { id = h.id; kind = h.kind; ttl = h.ttl; hops = h.hops; length = n } in ap of (sym size)

whole_of : (bs : List ℕ) (h : Header) → 23 ≤ length bs → IsBytes bs → reading (take 23 bs) ≡ Ok h → h.length ≡ length (drop 23 bs)
    → bytes_of (packet_from h (drop 23 bs)) ≡ bs
whole_of bs h long fits e size =
    let head : header_bytes h ≡ take 23 bs =
    ap header_bytes (sym (header_read (take 23 bs) h e)) ∙ header_bytes-header_at (take 23 bs) (length-take-le 23 bs long) (head_fits bs long fits) in
    ap (λ (x : Header). header_bytes x ++ drop 23 bs) (header_kept h (drop 23 bs) size) ∙ ap (λ (x : List ℕ). x ++ drop 23 bs) head ∙ take-append-drop 23 bs

fitting : (bs : List ℕ) (h : Header) (d : Packet) (b : Bool) → 23 ≤ length bs → IsBytes bs → reading (take 23 bs) ≡ Ok h
    → (h.length == length (drop 23 bs)) ≡ b → (if b then Some (packet_from h (drop 23 bs)) else None) ≡ Some d → bytes_of d ≡ bs
fitting bs h d true long fits e size m =
    let same : packet_from h (drop 23 bs) ≡ d = cc in
    let sized : h.length ≡ length (drop 23 bs) = grind (arith, nat_tests) in
    ap bytes_of (sym same) ∙ whole_of bs h long fits e sized
fitting bs h d false long fits e size m = absurd (cc)

after_header : (bs : List ℕ) (d : Packet) (r : Result Header FrameFault) → 23 ≤ length bs → IsBytes bs → reading (take 23 bs) ≡ r
    → packet_at r (drop 23 bs) ≡ Some d → bytes_of d ≡ bs
after_header bs d (Err fault) long fits e m = absurd (cc)
after_header bs d (Ok h) long fits e m = fitting bs h d (h.length == length (drop 23 bs)) long fits e refl m

long_enough : (bs : List ℕ) (d : Packet) (b : Bool) → IsBytes bs → nat_lt (length bs) 23 ≡ b
    → (if b then None else packet_at (reading (take 23 bs)) (drop 23 bs)) ≡ Some d → bytes_of d ≡ bs
long_enough bs d true fits e m = absurd (cc)
long_enough bs d false fits e m =
    let long : 23 ≤ length bs = grind (arith, nat_tests) in after_header bs d (reading (take 23 bs)) long fits refl m

pub read_is_encoded : (bs : List ℕ) (d : Packet) → IsBytes bs → packet_of bs ≡ Some d → bytes_of d ≡ bs
unfolding packet_of
read_is_encoded bs d fits m = long_enough bs d (nat_lt (length bs) 23) fits refl m
