-- A binary search of ascending entries finds the place that a search from the first on finds.
use Rattle.std.proofs.Common.{◌≡◌, ◌<◌, ◌≤◌, ◌+◌, ℕ, zero, suc, Bool, true, false, nat_eq, nat_lt, List, [], ◌∷◌, length, get_or, Some, None, Result, Ok, Err, refl, sym, ap, ◌∙◌, ⊎_elim, arith}
use Rattle.std.specs.List.{position, position_or_len}
use Rattle.std.specs.List.Sorted.{IsBinarySearchResult, IsNonDecreasingBy, IsSearchInRange, IsStrictlyIncreasing}
use Rattle.std.specs.Map.{keys_of}
use Rattle.std.specs.Ordering.{nat_cmp, ordering_index}
use Rattle.std.specs.Result.{result_ok}
use Rattle.std.proofs.lemmas.Bool.{cases_lt}
use Rattle.std.proofs.lemmas.Bool.Decides.{nat_tests}
use Rattle.std.proofs.lemmas.Cmp.{ranked}
use Rattle.std.proofs.lemmas.List.{get_or-map, length-map}
use Rattle.std.proofs.lemmas.List.Kept.{AllPairs-from_increasing}

module _ {X : Type 0} (c : ℕ) where
  abbrev is_its : ℕ × X → Bool
  is_its e = nat_eq c e.0

  -- the place of the first entry of c
  place_of_first : (es : List (ℕ × X)) (i : ℕ) → i < length es → ((d : ℕ × X) → nat_eq c (get_or es i d).0 ≡ true)
      → ((j : ℕ) (d : ℕ × X) → j < i → nat_eq c (get_or es j d).0 ≡ false) → position_or_len is_its es ≡ i
  place_of_first [] i there at before = absurd (omega (arith, there))
  place_of_first (e ∷ es) zero there at before = let same : nat_eq c e.0 ≡ true = at e in rw same refl
  place_of_first (e ∷ es) (suc i) there at before =
      let other : nat_eq c e.0 ≡ false = before 0 e (omega arith) in
      let rest = place_of_first es i (omega (arith, there)) at (λ j d lt. before (suc j) d (omega (arith, lt))) in
      let next : 1 + position_or_len is_its es ≡ suc i = omega (arith, rest) in rw other next

  -- where there is none
  place_of_none : (es : List (ℕ × X)) → ((j : ℕ) (d : ℕ × X) → j < length es → nat_eq c (get_or es j d).0 ≡ false) → position_or_len is_its es ≡ length es
  place_of_none [] none = refl
  place_of_none (e ∷ es) none =
      let other : nat_eq c e.0 ≡ false = none 0 e (omega arith) in
      let rest = place_of_none es (λ j d lt. none (suc j) d (omega (arith, lt))) in
      let next : 1 + position_or_len is_its es ≡ length (e ∷ es) = omega (arith, rest) in rw other next

  found : (es : List (ℕ × X)) (i : ℕ) → i < length es → position_or_len is_its es ≡ i → Some i ≡ position is_its es
  found es i there is = let within : nat_lt i (length es) ≡ true = grind (arith, nat_tests) in rw (is, within) refl

  missing : (es : List (ℕ × X)) → position_or_len is_its es ≡ length es → None ≡ position is_its es
  missing es is = let beyond : nat_lt (length es) (length es) ≡ false = grind (arith, nat_tests) in rw (is, beyond) refl

  module _ (es : List (ℕ × X)) (up : IsStrictlyIncreasing (keys_of es)) where
    rises : (i j : ℕ) (d : ℕ × X) → i < j → j < length es → (get_or es i d).0 < (get_or es j d).0
    rises i j d lt there =
        let key : ℕ × X → ℕ = λ e. e.0 in
        let many = length-map es key in
        let keys = AllPairs-from_increasing (keys_of es) up i j 0 lt (omega (arith, many, there)) in
        rw (← get_or-map key es i d 0 (omega (arith, lt, there)), ← get_or-map key es j d 0 there) keys

    -- the comparisons with c rise along the entries, as a binary search asks
    comparisons_rise : IsNonDecreasingBy (λ e. ordering_index (nat_cmp e.0 c)) es
    comparisons_rise i j d le there =
        let keys : (get_or es i d).0 ≤ (get_or es j d).0 =
        ⊎_elim (λ lt. let less = rises i j d lt there in omega (arith, less))
        (λ ge. let same : i ≡ j = omega (arith, le, ge) in omega (arith, ap (λ k. (get_or es k d).0) same)) (cases_lt i j) in
        grind (arith, nat_tests)

    -- an entry of c that stands at a place is the first one
    here : (i : ℕ) → i < length es → ((d : ℕ × X) → (get_or es i d).0 ≡ c) → Some i ≡ position is_its es
    here i there at =
        found es i there (place_of_first es i there
        (λ d. let is = at d in grind (arith, nat_tests))
        (λ j d lt. let is = at d in let less = rises j i d lt there in grind (arith, nat_tests)))

    pub standing : (i : ℕ) (e : ℕ × X) → i < length es → e ≡ get_or es i e → e.0 ≡ c → Some i ≡ position is_its es
    standing i e there is same =
        let key : ℕ × X → ℕ = λ x. x.0 in
        here i there (λ d. sym (get_or-map key es i d 0 there) ∙ get_or-map key es i e 0 there ∙ ap key (sym is) ∙ same)

    pub searched : (r : Result ℕ ℕ) → IsSearchInRange r (length es) → IsBinarySearchResult (λ e. nat_cmp e.0 c) es r → result_ok r ≡ position is_its es
    searched (Ok i) there equal =
        here i there (λ d. ranked _ c _ (sym (equal d)))
    searched (Err i) there parted =
        let parts = parted comparisons_rise in
        missing es (place_of_none es (λ j d lt.
        ⊎_elim (λ before. let less : (get_or es j d).0 < c = ranked _ c _ (sym (parts.0 j d (omega arith) before)) in grind (arith, nat_tests))
        (λ after. let more : c < (get_or es j d).0 = ranked _ c _ (sym (parts.1 j d after lt)) in grind (arith, nat_tests)) (cases_lt j i)))
