-- Bytes that pairs of hex digits say, each pair in turn, also after one that has none.
use Rattle.std.proofs.Common.{◌≡◌, ℕ, ◌+◌, ◌*◌, ◌%◌, ◌<◌, ◌≤◌, ◌==◌, Bool, true, false, inl, inr, bit_or, List, length, take, drop, slice_index, slice_set, Option, Some, None, Result, Ok, Err, refl, ap, arith}
use Rattle.std.specs.Prelude.{MatchBool, MatchOption, ◌&&◌, if◌then◌else◌, nat_lt}
use Rattle.std.proofs.lemmas.Bool.{and_parts, cases_lt, eqb-true}
use Rattle.std.proofs.lemmas.Bool.Decides.{nat_tests}
use Rattle.std.proofs.lemmas.Nat.{le_or_l, le_or_r, or_of_8}
use Rattle.std.specs.Result.{result_ok}
use Rattle.hex.specs.Hex.{decode_pairs, digit_or_error, hex_digit_value, ◌>>=◌}
use Rattle.hex.specs.declared.error.FromHexError.TheVariants.{InvalidHexCharacter}
use Rattle.hex.specs.declared.error.FromHexError.{FromHexError}
use Rattle.hex.proofs.Pairs.{decode_done, decode_err, decode_step, prepend}
use Rattle.gn_text.proofs.HexLemmas.{all_below, all_below-at}

-- what is known of a digit's number
abbrev pub ReadsAs : Option ℕ → ℕ → Type 0
ReadsAs o n = MatchOption o (n ≡ 256) (λ v. (n ≡ v) × (v < 16))

-- whether a number is what is known of a digit's
abbrev says : Option ℕ → ℕ → Bool
says None n = n == 256
says (Some v) n = n == v && nat_lt v 16

below_16 : (n : ℕ) → nat_lt n 16 ≡ true → n < 16
below_16 n is = grind (arith, nat_tests)

read_as : (o : Option ℕ) (n : ℕ) → says o n ≡ true → ReadsAs o n
read_as None n h = eqb-true n 256 h
read_as (Some v) n h = let parts = and_parts (n == v) (nat_lt v 16) h in (eqb-true n v parts.0, below_16 v parts.1)

-- a table of the numbers of all bytes is right where each row is
pub table_reads : (table : List ℕ) → all_below (λ k. says (hex_digit_value k) (slice_index table k)) 256 ≡ true → (k : ℕ) → k < 256
    → ReadsAs (hex_digit_value k) (slice_index table k)
table_reads table h k small = read_as _ _ (all_below-at (λ (m : ℕ). says (hex_digit_value m) (slice_index table m)) 256 k h small)

-- what is known after i pairs: the bytes so far, where all digits so far are valid, and else that the digits say nothing
abbrev pub Decodes : Bool → List ℕ → List ℕ → ℕ → Type 0
Decodes valid digits bytes i = MatchBool valid
    (decode_pairs 0 digits ≡ prepend (take i bytes) (decode_pairs (2 * i) (drop (2 * i) digits)))
    (result_ok (decode_pairs 0 digits) ≡ None)

-- the byte of two digits, by their numbers
abbrev pair_by : (o p : Option ℕ) (a b i : ℕ) → Result ℕ FromHexError
pair_by o p a b i = digit_or_error a i o >>= (λ h. digit_or_error b (i + 1) p >>= (λ l. Ok (h * 16 + l)))

below : (n : ℕ) → nat_lt n 256 ≡ true → n < 256
below n is = grind (arith, nat_tests)

not_below : (n : ℕ) → nat_lt n 256 ≡ false → n < 256 → ⊥
not_below n is small = grind (arith, nat_tests)

-- two digits are a byte
pair_read : (o p : Option ℕ) (a b i h l : ℕ) → ReadsAs o h → ReadsAs p l → h * 16 + l < 256 → pair_by o p a b i ≡ Ok ((h * 16 + l) % 256)
pair_read None p a b i h l s t x = absurd (omega (arith, s))
pair_read (Some v) None a b i h l s t x = absurd (omega (arith, t))
pair_read (Some v) (Some w) a b i h l s t x =
    let sum : v * 16 + w ≡ (h * 16 + l) % 256 = omega (arith, s.0, t.0, s.1, t.1) in
    ap Ok sum

-- two bytes of which one isn't a digit are none
pair_refused : (o p : Option ℕ) (a b i h l : ℕ) → ReadsAs o h → ReadsAs p l → (h * 16 + l < 256 → ⊥) → (e : FromHexError) × (pair_by o p a b i ≡ Err e)
pair_refused None p a b i h l s t wrong = (InvalidHexCharacter a i, refl)
pair_refused (Some v) None a b i h l s t wrong = (InvalidHexCharacter b (i + 1), refl)
pair_refused (Some v) (Some w) a b i h l s t wrong = absurd (wrong (omega (arith, s.0, s.1, t.0, t.1)))

-- where some numbers are below 256, each is
both_below : (a b : ℕ) → nat_lt (bit_or a b) 256 ≡ (nat_lt a 256 && nat_lt b 256)
both_below a b =
    let first = le_or_l a b in
    let second = le_or_r a b in
    elim (cases_lt a 256) [
      | inl x ↦ elim (cases_lt b 256) [
        | inl y ↦ let sum = or_of_8 a b x y in grind (arith, nat_tests)
        | inr y ↦ grind (arith, nat_tests)
      ]
      | inr x ↦ grind (arith, nat_tests)
    ]

module _ (digits bytes : List ℕ) (i h l : ℕ) (fits : 2 * i + 1 < length digits) (room : i < length bytes)
    (high : ReadsAs (hex_digit_value (slice_index digits (2 * i))) h) (low : ReadsAs (hex_digit_value (slice_index digits (2 * i + 1))) l) where
  pair_lost : (valid : Bool) → (h * 16 + l < 256 → ⊥) → Decodes valid digits bytes i → result_ok (decode_pairs 0 digits) ≡ None
  pair_lost false wrong known = known
  pair_lost true wrong known =
      let bad = pair_refused (hex_digit_value (slice_index digits (2 * i))) (hex_digit_value (slice_index digits (2 * i + 1)))
      (slice_index digits (2 * i)) (slice_index digits (2 * i + 1)) (2 * i) h l high low wrong in
      ap result_ok (decode_err digits bytes i bad.0 fits bad.1 known)

  one_more : (valid is_pair : Bool) → nat_lt (h * 16 + l) 256 ≡ is_pair → Decodes valid digits bytes i
      → Decodes (valid && is_pair) digits (slice_set bytes i ((h * 16 + l) % 256)) (i + 1)
  one_more false is_pair x known = known
  one_more true false x known = pair_lost true (not_below (h * 16 + l) x) known
  one_more true true x known =
      decode_step digits bytes i _ fits room
      (pair_read (hex_digit_value (slice_index digits (2 * i))) (hex_digit_value (slice_index digits (2 * i + 1))) _ _ (2 * i) h l high low (below (h * 16 + l) x))
      known

  -- one pair more
  pub pair_more : (all : ℕ) → Decodes (nat_lt all 256) digits bytes i
      → Decodes (nat_lt (bit_or all (h * 16 + l)) 256) digits (slice_set bytes i ((h * 16 + l) % 256)) (i + 1)
  pair_more all known = rw (both_below all (h * 16 + l)) (one_more (nat_lt all 256) (nat_lt (h * 16 + l) 256) refl known)

-- all pairs are gone through
pub pairs_done : (valid : Bool) (digits bytes : List ℕ) (i : ℕ) → length bytes ≤ i → length digits ≤ 2 * i → Decodes valid digits bytes i
    → result_ok (decode_pairs 0 digits) ≡ (if valid then Some bytes else None)
pairs_done true digits bytes i a b known = ap result_ok (decode_done digits bytes i a b known)
pairs_done false digits bytes i a b known = known
