-- A Query Hit that is encoded is read again.
use Rattle.std.proofs.Common.{◌≡◌, ℕ, ◌+◌, ◌-◌, ◌<◌, ◌≤◌, ◌^◌, Bool, true, false, nat_lt, if◌then◌else◌, Option, Some, None, ◌||◌, List, [], ◌∷◌, ◌++◌, length, drop, refl, sym, ap, ◌∙◌, subst, arith, append_assoc, length-append}
use Rattle.std.specs.List.{AllByRecursion, list_any}
use Rattle.std.proofs.lemmas.Bool.{false≢true}
use Rattle.std.proofs.lemmas.Bool.Decides.{nat_tests}
use Rattle.std.proofs.lemmas.List.{drop_at}
use Rattle.byteorder.specs.Endian.{little_bytes}
use Rattle.gn_payload.specs.Fields.{ResultFields, HitFields, number_at, bytes_at, hit_middle}
use Rattle.gn_payload.specs.Grammar.{IsText, IsResult, AreResults, IsHit}
use Rattle.gn_payload.specs.Refusals.{has_zero, zero_in_result, hit_refusal}
use Rattle.gn_payload.specs.declared.refusal.WriteRefusal.{WriteRefusal}
use Rattle.gn_payload.specs.declared.refusal.WriteRefusal.TheVariants.{ZeroInText, TooManyHits, TooLong}
use Rattle.gn_payload.specs.Encoding.{HasNumbers, result_bytes, results_bytes, hit_bytes}
use Rattle.gn_payload.proofs.Encoded.{number_there, bytes_there, text_clear}

-- how many bytes a result has
pub result_length : (r : ResultFields) → length (result_bytes r) ≡ 10 + length r.name + length r.extra
result_length r = simp length-append (omega arith)

-- a result's bytes and more have the result as their reading
result_encoded : (r : ResultFields) (rest : List ℕ) → HasNumbers r → IsText r.name → IsText r.extra → IsResult (result_bytes r ++ rest) r rest
result_encoded r rest fit name extra =
    let file = little_bytes 4 r.file in
    let size = little_bytes 4 r.size in
    let texts = r.name ++ 0 ∷ (r.extra ++ 0 ∷ rest) in
    let whole : file ++ (size ++ texts) ≡ result_bytes r ++ rest = simp append_assoc in
    record {
      file = number_there 4 0 r.file [] (size ++ texts) refl fit.file ∙ ap (λ (xs : List ℕ). number_at 4 0 xs) whole;
      size = number_there 4 4 r.size file texts refl fit.size ∙ ap (λ (xs : List ℕ). number_at 4 4 xs) whole;
      texts = (r.extra ++ 0 ∷ rest, record { encoded = ap (λ (xs : List ℕ). drop 8 xs) (sym whole); nonzero = name }, record { encoded = refl; nonzero = extra });
    }

-- no zero byte in either, where a test of both found none
neither : (a b : Bool) → (a || b) ≡ false → (a ≡ false) × (b ≡ false)
neither false b e = (refl, e)
neither true b e = absurd (false≢true (sym e))

-- results' bytes and more have the results as their reading
pub results_encoded : (rs : List ResultFields) (rest : List ℕ) → AllByRecursion HasNumbers rs → list_any zero_in_result rs ≡ false
    → AreResults (results_bytes rs ++ rest) rs rest
results_encoded [] rest fit clear = refl
results_encoded (r ∷ rs) rest fit clear =
    let more = results_bytes rs ++ rest in
    let first = neither (zero_in_result r) (list_any zero_in_result rs) clear in
    let texts = neither (has_zero r.name) (has_zero r.extra) first.0 in
    let one = result_encoded r more fit.0 (text_clear r.name texts.0) (text_clear r.extra texts.1) in
    let P : List ℕ → Type 0 = λ bytes. IsResult bytes r more in
    (more, subst P (sym (append_assoc (result_bytes r) (results_bytes rs) rest)) one, results_encoded rs rest fit.1 first.1)

-- how many bytes a Query Hit has
pub hit_length : (h : HitFields) → length h.ip ≡ 4 → length h.servent.0 ≡ 16 → length (hit_bytes h) ≡ 27 + length (results_bytes h.results) + length h.trailer
hit_length h four sixteen = simp length-append (omega arith)

-- six lists joined, from the left or otherwise
from_right : (a b c d e f : List ℕ) → a ++ (b ++ (c ++ (d ++ (e ++ f)))) ≡ a ++ b ++ c ++ d ++ e ++ f
from_right a b c d e f = simp append_assoc

from_third : (a b c d e f : List ℕ) → (a ++ b) ++ (c ++ (d ++ (e ++ f))) ≡ a ++ b ++ c ++ d ++ e ++ f
from_third a b c d e f = simp append_assoc

from_fourth : (a b c d e f : List ℕ) → (a ++ b ++ c) ++ ((d ++ e) ++ f) ≡ a ++ b ++ c ++ d ++ e ++ f
from_fourth a b c d e f = simp append_assoc

-- a Query Hit's bytes have the Query Hit as their reading
pub hit_encoded : (h : HitFields) → length h.ip ≡ 4 → length h.servent.0 ≡ 16 → h.port < 2 ^ 16 → h.speed < 2 ^ 32
    → AllByRecursion HasNumbers h.results → list_any zero_in_result h.results ≡ false → IsHit (hit_bytes h) h
hit_encoded h four sixteen port_fits speed_fits fit clear =
    let n = length h.results in
    let port = little_bytes 2 h.port in
    let speed = little_bytes 4 h.speed in
    let rs = results_bytes h.results in
    let id = h.servent.0 in
    let head = n ∷ port ++ h.ip ++ speed in
    let long = hit_length h four sixteen in
    let whole : (n ∷ port) ++ (h.ip ++ (speed ++ (rs ++ (h.trailer ++ id)))) ≡ hit_bytes h = from_right (n ∷ port) h.ip speed rs h.trailer id in
    let third : (n ∷ port ++ h.ip) ++ (speed ++ (rs ++ (h.trailer ++ id))) ≡ hit_bytes h = from_third (n ∷ port) h.ip speed rs h.trailer id in
    let fourth : head ++ ((rs ++ h.trailer) ++ id) ≡ hit_bytes h = from_fourth (n ∷ port) h.ip speed rs h.trailer id in
    let size : length head ≡ 11 = omega (arith, length-append (n ∷ port ++ h.ip) speed, length-append (n ∷ port) h.ip) in
    let middle : rs ++ h.trailer ≡ hit_middle (hit_bytes h) =
    bytes_there (length (hit_bytes h) - 27) 11 head (rs ++ h.trailer) id size (omega (arith, length-append rs h.trailer))
    ∙ ap (λ (xs : List ℕ). bytes_at (length (hit_bytes h) - 27) 11 xs) fourth in
    let last : id ≡ drop (length (hit_bytes h) - 16) (hit_bytes h) =
    sym (drop_at (head ++ rs ++ h.trailer) id (length (hit_bytes h) - 16) (omega (arith, length-append (head ++ rs) h.trailer, length-append head rs))) in
    let P : List ℕ → Type 0 = λ bytes. AreResults bytes h.results h.trailer in
    record {
      size = omega arith;
      hits = refl;
      port = number_there 2 1 h.port (n ∷ []) (h.ip ++ (speed ++ (rs ++ (h.trailer ++ id)))) refl port_fits ∙ ap (λ (xs : List ℕ). number_at 2 1 xs) whole;
      ip = bytes_there 4 3 (n ∷ port) h.ip (speed ++ (rs ++ (h.trailer ++ id))) refl four ∙ ap (λ (xs : List ℕ). bytes_at 4 3 xs) whole;
      speed = number_there 4 7 h.speed (n ∷ port ++ h.ip) (rs ++ (h.trailer ++ id)) (omega (arith, length-append (n ∷ port) h.ip)) speed_fits ∙ ap (λ (xs : List ℕ). number_at 4 7 xs) third;
      results = subst P middle (results_encoded h.results h.trailer fit clear);
      servent = ap (λ (xs : List ℕ). record { 0 = xs }) last;
    }

-- the parts as they are appended, from what a vector held
joined : (old a b c d e f : List ℕ) → old ++ (a ++ b ++ c) ++ d ++ e ++ f ≡ old ++ (a ++ b ++ c ++ d ++ e ++ f)
joined old a b c d e f = simp append_assoc

pub hit_appended : (h : HitFields) (old reserved headed listed trailed whole : List ℕ) (n : ℕ) → n ≡ length h.results → reserved ≡ old
    → headed ≡ reserved ++ (n ∷ little_bytes 2 h.port ++ h.ip ++ little_bytes 4 h.speed) → listed ≡ headed ++ results_bytes h.results
    → trailed ≡ listed ++ h.trailer → whole ≡ trailed ++ h.servent.0 → whole ≡ old ++ hit_bytes h
hit_appended h old reserved headed listed trailed whole n count e1 e2 e3 e4 e5 =
    e5 ∙ ap (λ (xs : List ℕ). xs ++ h.servent.0) (e4 ∙ ap (λ (xs : List ℕ). xs ++ h.trailer) (e3 ∙ ap (λ (xs : List ℕ). xs ++ results_bytes h.results) (e2
    ∙ ap (λ (xs : List ℕ). xs ++ (n ∷ little_bytes 2 h.port ++ h.ip ++ little_bytes 4 h.speed)) e1
    ∙ ap (λ (k : ℕ). old ++ (k ∷ little_bytes 2 h.port ++ h.ip ++ little_bytes 4 h.speed)) count)))
    ∙ joined old (length h.results ∷ little_bytes 2 h.port) h.ip (little_bytes 4 h.speed) (results_bytes h.results) h.trailer h.servent.0

-- what is against writing, by the answers of its three tests
abbrev chosen : Bool → Bool → Bool → Option WriteRefusal
chosen bad many long = if bad then Some ZeroInText else if many then Some TooManyHits else if long then Some TooLong else None

refused : (h : HitFields) (bad many long : Bool) → list_any zero_in_result h.results ≡ bad → nat_lt 255 (length h.results) ≡ many → nat_lt 65536 (length (hit_bytes h)) ≡ long
    → hit_refusal h ≡ chosen bad many long
refused h bad many long e1 e2 e3 =
    ap (λ (t : Bool). chosen t (nat_lt 255 (length h.results)) (nat_lt 65536 (length (hit_bytes h)))) e1
    ∙ ap (λ (t : Bool). chosen bad t (nat_lt 65536 (length (hit_bytes h)))) e2 ∙ ap (λ (t : Bool). chosen bad many t) e3

above : (m n : ℕ) → m < n → nat_lt m n ≡ true
above m n h = grind (arith, nat_tests)

within : (m n : ℕ) → n ≤ m → nat_lt m n ≡ false
within m n h = grind (arith, nat_tests)

pub zero_refused : (h : HitFields) → list_any zero_in_result h.results ≡ true → hit_refusal h ≡ Some ZeroInText
zero_refused h bad = refused h true _ _ bad refl refl

pub many_refused : (h : HitFields) → list_any zero_in_result h.results ≡ false → 255 < length h.results → hit_refusal h ≡ Some TooManyHits
many_refused h clear many = refused h false true _ clear (above 255 (length h.results) many) refl

pub long_refused : (h : HitFields) → list_any zero_in_result h.results ≡ false → length h.results ≤ 255 → 65536 < length (hit_bytes h) → hit_refusal h ≡ Some TooLong
long_refused h clear few long = refused h false false true clear (within 255 (length h.results) few) (above 65536 (length (hit_bytes h)) long)

pub none_refused : (h : HitFields) → list_any zero_in_result h.results ≡ false → length h.results ≤ 255 → length (hit_bytes h) ≤ 65536 → hit_refusal h ≡ None
none_refused h clear few short = refused h false false false clear (within 255 (length h.results) few) (within 65536 (length (hit_bytes h)) short)
