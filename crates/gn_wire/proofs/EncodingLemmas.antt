-- Encodings in a stream of bytes.
use Rattle.std.proofs.Common.{◌≡◌, ℕ, ◌+◌, ◌<◌, ◌^◌, List, [], ◌∷◌, ◌++◌, length, take, drop, None, refl, sym, ap, ◌∙◌, arith, append_assoc, length-append}
use Rattle.std.proofs.lemmas.Bool.Decides.{nat_tests}
use Rattle.std.proofs.lemmas.List.{take_at, drop_at, append-nil}
use Rattle.byteorder.specs.Endian.{little_bytes}
use Rattle.gn_wire.specs.declared.kind.Kind.{Kind}
use Rattle.gn_wire.specs.declared.kind.Kind.TheVariants.{Unknown}
use Rattle.gn_wire.specs.declared.header.Header.{Header}
use Rattle.gn_wire.specs.declared.kind.Guid.{Guid}
use Rattle.gn_wire.specs.Packet.{code_of, fault_of, IsDescriptor, Packet}
use Rattle.gn_wire.specs.Encoding.{header_bytes, header_of, header_at, bytes_of, EncodingsPart}
use Rattle.gn_wire.proofs.HeaderLemmas.{header_at-header_bytes}

-- a valid payload has a length that a u32 holds
pub valid_short : (kind : Kind) (n : ℕ) → fault_of kind n ≡ None → n < 2 ^ 32
valid_short (Unknown code) n e = grind (arith, nat_tests)
valid_short kind n e = grind (arith, nat_tests)

pub length-header_bytes : (h : Header) → length h.id.0 ≡ 16 → length (header_bytes h) ≡ 23
length-header_bytes h e =
    length-append h.id.0 (code_of h.kind ∷ h.ttl ∷ h.hops ∷ little_bytes 4 h.length) ∙ ap (λ (n : ℕ). n + 7) e

-- the header that a stream begins with, where it begins with a descriptor
pub header_at-stream : (d : Packet) (rest : List ℕ) → IsDescriptor d → header_at (take 23 (bytes_of d ++ rest)) ≡ header_of d
header_at-stream d rest kept =
    ap header_at (ap (take 23) (append_assoc (header_bytes (header_of d)) d.payload rest) ∙ take_at (header_bytes (header_of d)) (d.payload ++ rest) 23 (length-header_bytes (header_of d) kept.id_size))
    ∙ header_at-header_bytes (header_of d) kept.id_size (valid_short d.kind (length d.payload) kept.valid) kept.stored

-- what a stream that begins with a descriptor has after its header
pub drop-stream : (d : Packet) (rest : List ℕ) → IsDescriptor d → drop 23 (bytes_of d ++ rest) ≡ d.payload ++ rest
drop-stream d rest kept =
    ap (drop 23) (append_assoc (header_bytes (header_of d)) d.payload rest)
    ∙ drop_at (header_bytes (header_of d)) (d.payload ++ rest) 23 (length-header_bytes (header_of d) kept.id_size)

-- descriptors of equal headers and payloads are equal
packet_is : (i j : Guid) (k l : Kind) (t u a b : ℕ) (p q : List ℕ) → i ≡ j → k ≡ l → t ≡ u → a ≡ b → p ≡ q
    → ◌≡◌ {A = Packet} (record { id = i; kind = k; ttl = t; hops = a; payload = p }) (record { id = j; kind = l; ttl = u; hops = b; payload = q })
packet_is i j k l t u a b p q e1 e2 e3 e4 e5 = rw (e1, e2, e3, e4, e5) refl

-- a list that is longer by nothing
nothing_more : (p q rest : List ℕ) → p ≡ q ++ rest → length p ≡ length q → (p ≡ q) × (rest ≡ [])
nothing_more p q [] same size = (same ∙ append-nil q, refl)
nothing_more p q (x ∷ rest) same size =
    absurd (omega (arith, ap length same, length-append q (x ∷ rest)))

pub encodings_part : EncodingsPart
encodings_part d e rest d_kept e_kept same =
    let whole : bytes_of e ++ [] ≡ bytes_of d ++ rest = append-nil (bytes_of e) ∙ same in
    let header : header_of e ≡ header_of d =
    sym (header_at-stream e [] e_kept) ∙ ap (λ (xs : List ℕ). header_at (take 23 xs)) whole ∙ header_at-stream d rest d_kept in
    let longer : e.payload ≡ d.payload ++ rest =
    sym (append-nil e.payload) ∙ sym (drop-stream e [] e_kept) ∙ ap (drop 23) whole ∙ drop-stream d rest d_kept in
    let ends : (e.payload ≡ d.payload) × (rest ≡ []) = nothing_more e.payload d.payload rest longer (ap (λ (h : Header). h.length) header) in (
      packet_is e.id d.id e.kind d.kind e.ttl d.ttl e.hops d.hops e.payload d.payload
          (ap (λ (h : Header). h.id) header) (ap (λ (h : Header). h.kind) header) (ap (λ (h : Header). h.ttl) header) (ap (λ (h : Header). h.hops) header) ends.0,
      ends.1,
    )
