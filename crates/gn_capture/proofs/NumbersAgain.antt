-- A number that is written is read again.
use Rattle.std.proofs.Common.{◌≡◌, ℕ, ◌<◌, ◌^◌, List, [], ◌∷◌, ◌++◌, length, get_or, true, false, refl, sym, ap, ◌∙◌, arith, Some, decimal, append_assoc}
use Rattle.std.specs.Prelude.{◌==◌, nat_lt, slice_index}
use Rattle.std.specs.Char.{is_ascii_digit}
use Rattle.std.specs.List.{list_all, slice_split, All}
use Rattle.std.specs.Str.Parse.{digits_value}
use Rattle.std.proofs.lemmas.Fmt.{decimal_is_IsNumeral, length-decimal-le}
use Rattle.std.proofs.lemmas.Bool.Decides.{nat_tests}
use Rattle.std.proofs.lemmas.List.Splits.{slice_split_at, slice_split_none}
use Rattle.std.proofs.lemmas.List.Sums.{AllPass-from_list_all}
use Rattle.gn_text.specs.Addresses.{ip_of, ip_of_parts, ip_text}
use Rattle.gn_numbers.specs.Numbers.{below, is_numeral, number_below, number_of}
use Rattle.gn_numbers.proofs.NumberLemmas.{own, numeral_is, fits}
use Rattle.gn_capture.proofs.Spaced.{IsPlain, digits_plain, all_append, is_plain}

pub number_digits : (n : ℕ) → n < 2 ^ 32 → list_all is_ascii_digit (decimal n) ≡ true
number_digits n h = let k : n < 2 ^ 64 = omega arith in own.from (decimal n) (decimal_is_IsNumeral n k).0.1

pub number_nonempty : (n : ℕ) → n < 2 ^ 32 → 0 < length (decimal n)
number_nonempty n h = let k : n < 2 ^ 64 = omega arith in (decimal_is_IsNumeral n k).0.0

pub number_plain : (n : ℕ) → n < 2 ^ 32 → IsPlain (decimal n)
number_plain n h = digits_plain (decimal n) (number_digits n h)

pub number_again : (n : ℕ) → n < 2 ^ 32 → number_of (decimal n) ≡ Some n
number_again n h =
    let k : n < 2 ^ 64 = omega arith in
    let d = decimal_is_IsNumeral n k in
    let short = length-decimal-le 10 n (omega arith) (omega arith) k in
    let e : is_numeral (decimal n) ≡ true = numeral_is (decimal n) d.0.0 short (number_digits n h) in
    let small : digits_value 10 (decimal n) < 2 ^ 32 = rw d.1 h in
    sym (fits (is_numeral (decimal n)) (digits_value 10 (decimal n)) e small) ∙ ap Some d.1

is_below : (limit n : ℕ) → n < limit → below limit (Some n) ≡ Some n
is_below limit n h = let e : nat_lt n limit ≡ true = grind (arith, nat_tests) in rw e refl

pub number_below_again : (limit n : ℕ) → n < limit → n < 2 ^ 32 → number_below limit (decimal n) ≡ Some n
number_below_again limit n h k = ap (below limit) (number_again n k) ∙ is_below limit n h

no_dot : (x : ℕ) → is_ascii_digit x ≡ true → (x == 46) ≡ false
no_dot x h = grind (arith, nat_tests)

without_dot : (n : ℕ) → n < 2 ^ 32 → All (λ x. (x == 46) ≡ false) (decimal n)
without_dot n h = λ k d lt. no_dot (get_or (decimal n) k d) (AllPass-from_list_all is_ascii_digit (decimal n) (number_digits n h) k d lt)

-- a byte is a number
wide : (n : ℕ) → n < 256 → n < 2 ^ 32
wide n h = omega arith

joined : (a b c d : List ℕ) → ((((((a ++ 46 ∷ []) ++ b) ++ 46 ∷ []) ++ c) ++ 46 ∷ []) ++ d) ≡ a ++ (46 ∷ (b ++ (46 ∷ (c ++ (46 ∷ d)))))
joined a b c d = simp append_assoc

split_again : (a b c d : ℕ) → a < 256 → b < 256 → c < 256 → d < 256
    → slice_split (λ x. x == 46) (ip_text (a ∷ b ∷ c ∷ d ∷ [])) ≡ decimal a ∷ decimal b ∷ decimal c ∷ decimal d ∷ []
split_again a b c d ha hb hc hd =
    let rest_d = decimal d in
    let rest_c = decimal c ++ (46 ∷ rest_d) in
    let rest_b = decimal b ++ (46 ∷ rest_c) in
    ap (slice_split (λ x. x == 46)) (joined (decimal a) (decimal b) (decimal c) (decimal d))
    ∙ slice_split_at (λ x. x == 46) (decimal a) 46 rest_b (without_dot a (wide a ha)) refl
    ∙ ap (λ (r : List (List ℕ)). decimal a ∷ r) (slice_split_at (λ x. x == 46) (decimal b) 46 rest_c (without_dot b (wide b hb)) refl)
    ∙ ap (λ (r : List (List ℕ)). decimal a ∷ decimal b ∷ r) (slice_split_at (λ x. x == 46) (decimal c) 46 rest_d (without_dot c (wide c hc)) refl)
    ∙ ap (λ (r : List (List ℕ)). decimal a ∷ decimal b ∷ decimal c ∷ r) (slice_split_none (λ x. x == 46) (decimal d) (without_dot d (wide d hd)))

four_again : (a b c d : ℕ) → a < 256 → b < 256 → c < 256 → d < 256 → ip_of (ip_text (a ∷ b ∷ c ∷ d ∷ [])) ≡ Some (a ∷ b ∷ c ∷ d ∷ [])
four_again a b c d ha hb hc hd =
    ap ip_of_parts (split_again a b c d ha hb hc hd)
    ∙ rw (number_below_again 256 a ha (wide a ha), number_below_again 256 b hb (wide b hb), number_below_again 256 c hc (wide c hc), number_below_again 256 d hd (wide d hd)) refl

four_plain : (a b c d : ℕ) → a < 256 → b < 256 → c < 256 → d < 256 → IsPlain (ip_text (a ∷ b ∷ c ∷ d ∷ []))
four_plain a b c d ha hb hc hd =
    let pa = number_plain a (wide a ha) in
    let pb = number_plain b (wide b hb) in
    let pc = number_plain c (wide c hc) in
    let pd = number_plain d (wide d hd) in
    let last : IsPlain (decimal c ++ (46 ∷ decimal d)) = all_append is_plain (decimal c) (46 ∷ decimal d) pc pd in
    let more : IsPlain (decimal b ++ (46 ∷ (decimal c ++ (46 ∷ decimal d)))) = all_append is_plain (decimal b) (46 ∷ (decimal c ++ (46 ∷ decimal d))) pb last in
    ap (list_all is_plain) (joined (decimal a) (decimal b) (decimal c) (decimal d))
    ∙ all_append is_plain (decimal a) (46 ∷ (decimal b ++ (46 ∷ (decimal c ++ (46 ∷ decimal d))))) pa more

-- an address that is written is read again
pub ip_again : (ip : List ℕ) → length ip ≡ 4 → ((i : ℕ) → slice_index ip i < 256) → (ip_of (ip_text ip) ≡ Some ip) × IsPlain (ip_text ip)
ip_again (a ∷ b ∷ c ∷ d ∷ []) e h = (four_again a b c d (h 0) (h 1) (h 2) (h 3), four_plain a b c d (h 0) (h 1) (h 2) (h 3))
ip_again [] e h = absurd (omega arith)
ip_again (a ∷ []) e h = absurd (omega arith)
ip_again (a ∷ b ∷ []) e h = absurd (omega arith)
ip_again (a ∷ b ∷ c ∷ []) e h = absurd (omega arith)
ip_again (a ∷ b ∷ c ∷ d ∷ f ∷ more) e h = absurd (omega arith)
