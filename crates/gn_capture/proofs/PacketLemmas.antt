-- The descriptor that bytes encode.
use Rattle.std.proofs.Common.{◌≡◌, ℕ, ◌-◌, ◌≤◌, ◌<◌, List, length, take, drop, false, true, refl, sym, ap, ◌∙◌, arith, Ok, Err, Some, None, length-drop}
use Rattle.std.specs.Prelude.{nat_lt, ◌==◌}
use Rattle.std.proofs.lemmas.Bool.Decides.{nat_tests}
use Rattle.gn_wire.specs.declared.header.FrameFault.{FrameFault}
use Rattle.gn_wire.specs.declared.header.Header.{Header}
use Rattle.gn_wire.specs.Packet.{fault_of}
use Rattle.gn_wire.specs.Encoding.{IsHeader, packet_from, reading}
use Rattle.gn_capture.specs.Packets.{IsHeaderAlone, packet_of}

-- what is too short for a header encodes none
pub too_short : (bs : List ℕ) → length bs < 23 → packet_of bs ≡ None
unfolding packet_of
too_short bs short =
    let test : nat_lt (length bs) 23 ≡ true = grind (arith, nat_tests) in
    rw test refl

-- nor does what begins with a header whose length isn't valid
pub faulty : (bs head : List ℕ) (fault : FrameFault) → 23 ≤ length bs → head ≡ take 23 bs → reading head ≡ Err fault → packet_of bs ≡ None
unfolding packet_of
faulty bs head fault long head_is m =
    let enough : nat_lt (length bs) 23 ≡ false = grind (arith, nat_tests) in
    let read : reading (take 23 bs) ≡ Err fault = ap reading (sym head_is) ∙ m in
    rw (enough, read) refl

-- nor does what has another length than its header says
pub other_length : (bs head : List ℕ) (h : Header) → 23 ≤ length bs → head ≡ take 23 bs → reading head ≡ Ok h
    → (h.length ≡ length bs - 23 → ⊥) → packet_of bs ≡ None
unfolding packet_of
other_length bs head h long head_is m differs =
    let enough : nat_lt (length bs) 23 ≡ false = grind (arith, nat_tests) in
    let apart : h.length ≡ length (drop 23 bs) → ⊥ = λ same. differs (same ∙ length-drop 23 bs) in
    let misfit : (h.length == length (drop 23 bs)) ≡ false = grind (arith, nat_tests) in
    let read : reading (take 23 bs) ≡ Ok h = ap reading (sym head_is) ∙ m in
    rw (enough, read, misfit) refl

-- what has the length that its header says encodes a descriptor
whole_found : (bs head : List ℕ) (h : Header) → 23 ≤ length bs → head ≡ take 23 bs → reading head ≡ Ok h → h.length ≡ length bs - 23
    → packet_of bs ≡ Some (packet_from h (drop 23 bs))
unfolding packet_of
whole_found bs head h long head_is m size =
    let enough : nat_lt (length bs) 23 ≡ false = grind (arith, nat_tests) in
    let sized : h.length ≡ length (drop 23 bs) = size ∙ sym (length-drop 23 bs) in
    let fits : (h.length == length (drop 23 bs)) ≡ true = grind (arith, nat_tests) in
    let read : reading (take 23 bs) ≡ Ok h = ap reading (sym head_is) ∙ m in
    rw (enough, read, fits) refl

pub header_found : (bs head : List ℕ) (h : Header) → 23 ≤ length bs → head ≡ take 23 bs → reading head ≡ Ok h → IsHeader h
    → h.length ≡ length bs - 23 → IsHeaderAlone bs h
header_found bs head h long head_is m ok size =
    record { header = ok; size = omega (arith, size, long); packet = whole_found bs head h long head_is m size }

-- the payload after a header has the length that the header says
pub whole_valid : (bs : List ℕ) (h : Header) (payload : List ℕ) → IsHeaderAlone bs h → payload ≡ drop 23 bs → fault_of h.kind (length payload) ≡ None
whole_valid bs h payload alone is =
    let size : length payload ≡ h.length = omega (arith, alone.size, ap length is, length-drop 23 bs) in
    rw size alone.header.valid
