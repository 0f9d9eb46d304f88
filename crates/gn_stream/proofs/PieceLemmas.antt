-- Where the first line feed stands in what is left of a piece.
use Rattle.std.proofs.Common.{◌≡◌, ◌+◌, ◌-◌, ◌<◌, ◌≤◌, ◌∙◌, ℕ, suc, List, ◌∷◌, ◌++◌, length, take, drop, Some, None, sym, ap, arith, length-drop}
use Rattle.std.specs.Prelude.{◌≢◌, All, slice_range}
use Rattle.std.proofs.Math.ListN.{get_or}
use Rattle.std.proofs.lemmas.Bool.{eq-eqb, eqb-true}
use Rattle.std.proofs.Math.Seq.{take-add}
use Rattle.std.proofs.lemmas.List.{drop-drop, drop_more, get_or-take, get_or_default}
use Rattle.std.proofs.lemmas.List.Edits.{get_or-between, length-between}
use Rattle.memchr.specs.Find.{IsFirstByte, is_byte}

-- a list up to an element, the element, and so many after it
cut_at : (xs : List ℕ) (i n x : ℕ) → i < length xs → get_or xs i 0 ≡ x → take (i + suc n) xs ≡ take i xs ++ x ∷ take n (drop (i + 1) xs)
cut_at xs i n x within is =
    take-add i (suc n) xs
    ∙ ap (λ (ys : List ℕ). take i xs ++ ys) (ap (λ (ys : List ℕ). take (suc n) ys) (drop_more xs i 0 within) ∙ ap (λ (y : ℕ). y ∷ take n (drop (i + 1) xs)) is)

cut_range : (bytes : List ℕ) (at end count x : ℕ) → at + count < end → end ≤ length bytes → get_or (slice_range bytes at end) count 0 ≡ x
    → slice_range bytes at end ≡ slice_range bytes at (at + count) ++ x ∷ slice_range bytes (at + count + 1) end
cut_range bytes at end count x within whole is =
    let many : end - at ≡ count + suc (end - (at + count + 1)) = omega (arith, within) in
    let inside : count < length (drop at bytes) = omega (arith, within, whole, length-drop at bytes) in
    let before : count ≡ at + count - at = omega arith in
    let after : at + (count + 1) ≡ at + count + 1 = omega arith in
    let first : get_or (drop at bytes) count 0 ≡ x = sym (get_or-take (end - at) (drop at bytes) count 0 (omega (arith, within))) ∙ is in
    ap (λ (n : ℕ). take n (drop at bytes)) many ∙ cut_at (drop at bytes) count (end - (at + count + 1)) x inside first
    ∙ ap (λ (n : ℕ). take n (drop at bytes) ++ x ∷ take (end - (at + count + 1)) (drop (count + 1) (drop at bytes))) before
    ∙ ap (λ (ys : List ℕ). take (at + count - at) (drop at bytes) ++ x ∷ take (end - (at + count + 1)) ys)
    (drop-drop (count + 1) at bytes ∙ ap (λ (n : ℕ). drop n bytes) after)

-- none stands there where none was found
pub none_found : (left held : List ℕ) → left ≡ held → IsFirstByte (is_byte 10) left None → All (λ b. b ≢ 10) held
none_found left held is none = rw (← is) (λ k d within ten. none k (omega arith) within (eq-eqb _ 10 (get_or_default left k 0 d within ∙ ten)))

-- one stands there where one was found
pub some_found : (left held : List ℕ) → left ≡ held → (count : ℕ) → IsFirstByte (is_byte 10) left (Some count) → All (λ b. b ≢ 10) held → ⊥
some_found left held is count first = rw (← is) (λ free. free count 0 first.0.high (eqb-true _ 10 first.1))

module _ (bytes left : List ℕ) (at end : ℕ) (is : left ≡ slice_range bytes at end) (whole : end ≤ length bytes) (count : ℕ) (first : IsFirstByte (is_byte 10) left (Some count)) where
  -- it stands within
  pub feed_within : at + count < end
  feed_within = omega (arith, first.0.high, ap length is, length-between bytes at end whole)

  -- none stands before it
  pub free_before : All (λ b. b ≢ 10) (slice_range bytes at (at + count))
  free_before k d less ten =
      let below : k < count = omega (arith, less, feed_within, length-between bytes at (at + count) (omega (arith, feed_within, whole))) in
      let same : get_or left k 0 ≡ 10 =
      ap (λ (xs : List ℕ). get_or xs k 0) is ∙ get_or-between bytes at end k 0 (omega (arith, below, feed_within)) ∙ sym (get_or-between bytes at (at + count) k 0 (omega (arith, below)))
      ∙ get_or_default _ k 0 d less ∙ ten in
      first.0.before k (omega arith) below (eq-eqb _ 10 same)

  -- what is left is what stands before it, itself, and what follows
  pub feed_cut : left ≡ slice_range bytes at (at + count) ++ 10 ∷ slice_range bytes (at + count + 1) end
  feed_cut = is ∙ cut_range bytes at end count 10 feed_within whole (sym (ap (λ (xs : List ℕ). get_or xs count 0) is) ∙ eqb-true _ 10 first.1)
