-- Hex digits of lower case, and those of bytes that are put together.
use Rattle.std.proofs.Common.{◌≡◌, ℕ, zero, suc, ◌+◌, ◌-◌, ◌/◌, ◌%◌, ◌<◌, ◌≤◌, ◌==◌, ◌&&◌, Bool, true, inl, inr, List, [], ◌∷◌, ◌++◌, length, length-append, take, slice_index, append_assoc, refl, sym, ap, ◌∙◌, arith}
use Rattle.std.proofs.lemmas.Bool.{and_parts, cases_lt, eqb-true}
use Rattle.std.proofs.Math.Seq.{take-append_seam}
use Rattle.hex.specs.Hex.{encode_lower, encode_with, lower_digits}

-- a test of each number below n
abbrev pub all_below : (ℕ → Bool) → ℕ → Bool
all_below test zero = true
all_below test (suc n) = test n && all_below test n

pub all_below-at : (test : ℕ → Bool) (n k : ℕ) → all_below test n ≡ true → k < n → test k ≡ true
all_below-at test zero k h below = absurd (omega arith)
all_below-at test (suc n) k h below =
    let parts = and_parts (test n) (all_below test n) h in
    elim (cases_lt k n) [
      | inl lower ↦ all_below-at test n k parts.1 lower
      | inr top ↦ let e : k ≡ n = omega arith in rw e parts.0
    ]

-- the digits of 0 to 9
abbrev is_decimal : ℕ → Bool
is_decimal k = 48 + k == slice_index lower_digits k

pub decimal_digit : (n : ℕ) → n < 10 → 48 + n ≡ slice_index lower_digits n
decimal_digit n below = eqb-true (48 + n) (slice_index lower_digits n) (all_below-at is_decimal 10 n refl below)

-- the digits of 10 to 15
abbrev is_letter : ℕ → Bool
is_letter k = 97 + k == slice_index lower_digits (10 + k)

pub letter_digit : (n : ℕ) → 10 ≤ n → n < 16 → 87 + n ≡ slice_index lower_digits n
letter_digit n above below =
    let k : ℕ = n - 10 in
    let is : 10 + k ≡ n = omega arith in
    let letter : 87 + n ≡ 97 + k = omega arith in
    letter ∙ eqb-true (97 + k) (slice_index lower_digits (10 + k)) (all_below-at is_letter 6 k refl (omega arith))
    ∙ ap (λ (m : ℕ). slice_index lower_digits m) is

joined_by : (digits head back : List ℕ) → encode_with digits (head ++ back) ≡ encode_with digits head ++ encode_with digits back
unfolding encode_with
joined_by digits [] back = refl
joined_by digits (b ∷ head) back = rw (joined_by digits head back) refl

-- the digits of two texts, one after the other, are those of both
pub joined : (head back : List ℕ) → encode_lower (head ++ back) ≡ encode_lower head ++ encode_lower back
joined head back = joined_by lower_digits head back

one_more : (head : List ℕ) (byte : ℕ)
    → encode_lower (head ++ byte ∷ []) ≡ encode_lower head ++ slice_index lower_digits (byte / 16) ∷ slice_index lower_digits (byte % 16) ∷ []
unfolding encode_with
one_more head byte = joined head (byte ∷ [])

without_two : (front text : List ℕ) (a b : ℕ) → text ≡ front ++ a ∷ b ∷ [] → (2 ≤ length text) × (take (length text - 2) text ≡ front)
without_two front text a b is =
    let size : length text ≡ length front + 2 = ap length is ∙ length-append front (a ∷ b ∷ []) in
    let place : length text - 2 ≡ length front = omega arith in
    (omega arith, ap (λ (n : ℕ). take n text) place ∙ ap (take (length front)) is ∙ take-append_seam front (a ∷ b ∷ []))

-- the digits of a byte after a header are taken away again
pub header_alone : (old header block text : List ℕ) → block ≡ header ++ 0 ∷ [] → text ≡ old ++ encode_lower block
    → (2 ≤ length text) × (take (length text - 2) text ≡ old ++ encode_lower header)
header_alone old header block text padded is =
    without_two (old ++ encode_lower header) text _ _
    (is ∙ ap (λ (xs : List ℕ). old ++ encode_lower xs) padded ∙ ap (λ (xs : List ℕ). old ++ xs) (one_more header 0) ∙ sym (append_assoc old (encode_lower header) _))
