-- A header in an array of 23 bytes.
use Rattle.std.proofs.Common.{◌≡◌, ℕ, ◌+◌, ◌<◌, ◌^◌, List, [], ◌∷◌, ◌++◌, length, get_or, take, drop, refl, sym, ap, ◌∙◌, arith, append_assoc, drop-cons, length-drop}
use Rattle.std.proofs.Math.ListN.{set}
use Rattle.std.proofs.lemmas.List.{set-append_right, take-append-drop, get_or-drop, append-nil}
use Rattle.std.proofs.lemmas.Nat.{le_bytes_4}
use Rattle.bytes.proofs.Ranges.{take-append_past}
use Rattle.std.proofs.Math.Seq.{drop-append-add}
use Rattle.byteorder.specs.Endian.{little_bytes, little_number}
use Rattle.byteorder.specs.Numbers.{little_number-reads_back}
use Rattle.gn_wire.specs.declared.header.Header.{Header}
use Rattle.gn_wire.specs.declared.kind.Kind.{Kind}
use Rattle.gn_wire.specs.Packet.{code_of, kind_of, IsStored}
use Rattle.gn_wire.specs.Encoding.{header_bytes, header_at}
use Rattle.gn_wire.proofs.KindLemmas.{code_of-kind_of}
use Rattle.std.proofs.lemmas.Grind.{common_steps}
use borrow.Rule.Slice.PartMut.{put_mid}

-- the parts written one after another
pub header_written : (id : List ℕ) (c t h : ℕ) (w : List ℕ) → length id ≡ 16
    → put_mid 19 4 (set (set (set (id ++ 0 ∷ 0 ∷ 0 ∷ 0 ∷ 0 ∷ 0 ∷ 0 ∷ []) 16 c) 17 t) 18 h) w ≡ id ++ (c ∷ t ∷ h ∷ w)
header_written id c t h w e =
    let first = set-append_right id (0 ∷ 0 ∷ 0 ∷ 0 ∷ 0 ∷ 0 ∷ 0 ∷ []) 16 16 c e (omega arith) in
    let second = set-append_right id (c ∷ 0 ∷ 0 ∷ 0 ∷ 0 ∷ 0 ∷ 0 ∷ []) 16 17 t e (omega arith) in
    let third = set-append_right id (c ∷ t ∷ 0 ∷ 0 ∷ 0 ∷ 0 ∷ 0 ∷ []) 16 18 h e (omega arith) in
    let whole = id ++ (c ∷ t ∷ h ∷ 0 ∷ 0 ∷ 0 ∷ 0 ∷ []) in
    let at : 19 ≡ length id + 3 = omega arith in
    let head : take 19 whole ≡ id ++ (c ∷ t ∷ h ∷ []) = take-append_past id (c ∷ t ∷ h ∷ 0 ∷ 0 ∷ 0 ∷ 0 ∷ []) 3 19 at in
    let back : drop 19 whole ≡ 0 ∷ 0 ∷ 0 ∷ 0 ∷ [] =
    ap (λ (n : ℕ). drop n whole) at ∙ drop-append-add id (c ∷ t ∷ h ∷ 0 ∷ 0 ∷ 0 ∷ 0 ∷ []) 3 in
    rw (first, second, third, head, back) (simp (append_assoc, append-nil))

-- the same with what each part is known to be
pub header_encoded : (id id' : List ℕ) (c c' t h : ℕ) (w w' : List ℕ) → length id ≡ 16 → id ≡ id' → c ≡ c' → w ≡ w'
    → put_mid 19 4 (set (set (set (id ++ 0 ∷ 0 ∷ 0 ∷ 0 ∷ 0 ∷ 0 ∷ 0 ∷ []) 16 c) 17 t) 18 h) w ≡ id' ++ (c' ∷ t ∷ h ∷ w')
header_encoded id id' c c' t h w w' e id_is c_is w_is =
    header_written id c t h w e ∙ rw (id_is, c_is, w_is) refl

-- the parts read one after another
pub header_read : (bs : List ℕ) → length bs ≡ 23 → ((k : ℕ) → get_or bs k 0 < 256)
    → take 16 bs ++ (get_or bs 16 0 ∷ get_or bs 17 0 ∷ get_or bs 18 0 ∷ little_bytes 4 (little_number 4 (drop 19 bs))) ≡ bs
header_read bs e fits =
    let last = le_bytes_4 (drop 19 bs) (little_number 4 (drop 19 bs)) (simp length-drop (omega arith)) (λ i. rw get_or-drop (fits (19 + i))) (omega arith) in
    let at_16 : drop 16 bs ≡ get_or bs 16 0 ∷ drop 17 bs = drop-cons bs 16 0 (omega arith) in
    let at_17 : drop 17 bs ≡ get_or bs 17 0 ∷ drop 18 bs = drop-cons bs 17 0 (omega arith) in
    let at_18 : drop 18 bs ≡ get_or bs 18 0 ∷ drop 19 bs = drop-cons bs 18 0 (omega arith) in
    ap (λ (z : List ℕ). take 16 bs ++ (get_or bs 16 0 ∷ get_or bs 17 0 ∷ get_or bs 18 0 ∷ z)) last
    ∙ ap (λ (z : List ℕ). take 16 bs ++ (get_or bs 16 0 ∷ get_or bs 17 0 ∷ z)) (sym at_18)
    ∙ ap (λ (z : List ℕ). take 16 bs ++ (get_or bs 16 0 ∷ z)) (sym at_17)
    ∙ ap (λ (z : List ℕ). take 16 bs ++ z) (sym at_16)
    ∙ take-append-drop 16 bs

-- the bytes are the encoding of the header that they say
pub header_bytes-header_at : (bs : List ℕ) → length bs ≡ 23 → ((k : ℕ) → get_or bs k 0 < 256) → header_bytes (header_at bs) ≡ bs
header_bytes-header_at bs e fits =
    ap (λ (x : ℕ). take 16 bs ++ (x ∷ get_or bs 17 0 ∷ get_or bs 18 0 ∷ little_bytes 4 (little_number 4 (drop 19 bs)))) (code_of-kind_of (get_or bs 16 0))
    ∙ header_read bs e fits

-- a place past the ID
past_id : (id ys : List ℕ) (n i : ℕ) → length id ≡ 16 → n ≡ 16 + i → get_or (id ++ ys) n 0 ≡ get_or ys i 0
past_id id ys n i e at = grind (arith, common_steps)

-- headers with equal parts are equal
header_is : (i j : List ℕ) (k l : Kind) (t u a b n m : ℕ) → i ≡ j → k ≡ l → t ≡ u → a ≡ b → n ≡ m
    → ◌≡◌ {A = Header} (record { id = record { 0 = i }; kind = k; ttl = t; hops = a; length = n }) (record { id = record { 0 = j }; kind = l; ttl = u; hops = b; length = m })
header_is i j k l t u a b n m e1 e2 e3 e4 e5 = rw (e1, e2, e3, e4, e5) refl

-- the header of an encoding
pub header_at-header_bytes : (h : Header) → length h.id.0 ≡ 16 → h.length < 2 ^ 32 → IsStored h.kind → header_at (header_bytes h) ≡ h
header_at-header_bytes h e fits stored =
    let tail = code_of h.kind ∷ h.ttl ∷ h.hops ∷ little_bytes 4 h.length in
    let id_is : take 16 (h.id.0 ++ tail) ≡ h.id.0 = take-append_past h.id.0 tail 0 16 (omega arith) ∙ append-nil h.id.0 in
    let code_is = past_id h.id.0 tail 16 0 e refl in
    let ttl_is = past_id h.id.0 tail 17 1 e refl in
    let hops_is = past_id h.id.0 tail 18 2 e refl in
    let at : 19 ≡ length h.id.0 + 3 = omega arith in
    let back : drop 19 (h.id.0 ++ tail) ≡ little_bytes 4 h.length =
    ap (λ (n : ℕ). drop n (h.id.0 ++ tail)) at ∙ drop-append-add h.id.0 tail 3 in
    header_is _ _ _ _ _ _ _ _ _ _ id_is (ap kind_of code_is ∙ sym stored) ttl_is hops_is
    (ap (λ (xs : List ℕ). little_number 4 xs) back ∙ little_number-reads_back 4 h.length [] fits)
