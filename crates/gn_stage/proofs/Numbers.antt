-- Ends that were made, no two of one number: they are all of them where they are as many.
use Rattle.std.proofs.Common.{◌≡◌, ◌≢◌, ◌==◌, ◌↔◌, ℕ, zero, suc, ◌+◌, ◌<◌, ◌≤◌, List, [], ◌∷◌, length, if◌then◌else◌, sym, refl, ap, ◌∙◌, ⊎_elim, arith, eq-eqb, ne_eqb, lt_of_not-le}
use Rattle.std.specs.Prelude.{All, AllPairs, Any}
use Rattle.std.proofs.lemmas.List.Elements.{All-tail}
use native.Mathlib.Decide.{dec_le}
use Rattle.gn_stage.specs.Ends.{End, AreAllHome}
use Rattle.gn_stage.proofs.Interleavings.{among_tail, pairs_tail, pairs_head}
use Rattle.gn_stage.proofs.Sides.{same_or_not}

module _ {J : Type 0} where
  abbrev AreApart : List (End J) → Type 0
  AreApart es = AllPairs (λ a b. a.number ≢ b.number) es

  -- how many of these have the number
  abbrev having : ℕ → List (End J) → ℕ
  having k [] = 0
  having k (e ∷ es) = if e.number == k then suc (having k es) else having k es

  -- how many have a number below this one
  abbrev below : ℕ → List (End J) → ℕ
  below zero es = 0
  below (suc m) es = below m es + having m es

  having_here : (k : ℕ) (e : End J) (es : List (End J)) → e.number ≡ k → having k (e ∷ es) ≡ having k es + 1
  having_here k e es is = rw (eq-eqb e.number k is) (omega arith)

  having_else : (k : ℕ) (e : End J) (es : List (End J)) → e.number ≢ k → having k (e ∷ es) ≡ having k es
  having_else k e es n = rw (ne_eqb e.number k n) refl

  having_none : (k : ℕ) (es : List (End J)) → All (λ e. k ≢ e.number) es → having k es ≡ 0
  having_none k [] h = refl
  having_none k (e ∷ es) h =
      let head = having_else k e es (λ same. h 0 e (omega arith) (sym same)) in
      let rest = having_none k es (All-tail (λ e. k ≢ e.number) e es h) in
      omega arith

  having_one : (k : ℕ) (es : List (End J)) → AreApart es → having k es ≤ 1
  having_one k [] h = omega arith
  having_one k (e ∷ es) h =
      ⊎_elim (λ (here : e.number ≡ k). let head = having_here k e es here in let rest = having_none k es (λ i d lt same. pairs_head e es h i d lt (here ∙ same)) in omega arith)
      (λ (off : e.number ≢ k). let head = having_else k e es off in let rest = having_one k es (pairs_tail e es h) in omega arith) (same_or_not e.number k)

  is_there : (k : ℕ) (es : List (End J)) → 0 < having k es → Any (λ e. e.number ≡ k) es
  is_there k [] some = absurd (omega arith)
  is_there k (e ∷ es) some =
      ⊎_elim (λ (here : e.number ≡ k). (0, e, (omega arith), refl, here))
      (λ (off : e.number ≢ k). let head = having_else k e es off in let h = is_there k es (omega arith) in (suc h.0, h.1, (let lt = h.2 in omega arith), h.3, h.4)) (same_or_not e.number k)

  there_is : (k : ℕ) (es : List (End J)) → Any (λ e. e.number ≡ k) es → 0 < having k es
  there_is k [] h = let lt = h.2 in absurd (omega arith)
  there_is k (e ∷ es) h =
      ⊎_elim (λ (here : e.number ≡ k). let head = having_here k e es here in omega arith)
      (λ (off : e.number ≢ k). let head = having_else k e es off in let rest = there_is k es (among_tail k e es (λ same. off (sym same)) h) in omega arith) (same_or_not e.number k)

  below_none : (m : ℕ) (es : List (End J)) → length es ≡ 0 → below m es ≡ 0
  below_none zero es none = refl
  below_none (suc m) [] none = let rest = below_none m [] none in omega arith
  below_none (suc m) (e ∷ es) none = absurd (omega arith)

  below_past : (m : ℕ) (e : End J) (es : List (End J)) → m ≤ e.number → below m (e ∷ es) ≡ below m es
  below_past zero e es le = refl
  below_past (suc m) e es le =
      let rest = below_past m e es (omega arith) in
      let head = having_else m e es (λ same. omega arith) in
      omega arith

  below_more : (m : ℕ) (e : End J) (es : List (End J)) → e.number < m → below m (e ∷ es) ≡ below m es + 1
  below_more zero e es lt = absurd (omega arith)
  below_more (suc m) e es lt =
      ⊎_elim (λ (here : e.number ≡ m). let head = having_here m e es here in let rest = below_past m e es (omega arith) in omega arith)
      (λ (off : e.number ≢ m). let head = having_else m e es off in let rest = below_more m e es (omega arith) in omega arith) (same_or_not e.number m)

  -- where all numbers are below it, so many are these
  below_all : (m : ℕ) (es : List (End J)) → All (λ e. e.number < m) es → below m es ≡ length es
  below_all m [] h = below_none m [] refl
  below_all m (e ∷ es) h =
      let head = below_more m e es (h 0 e (omega arith)) in
      let rest = below_all m es (All-tail (λ e. e.number < m) e es h) in
      omega arith

  below_most : (m : ℕ) (es : List (End J)) → AreApart es → below m es ≤ m
  below_most zero es h = omega arith
  below_most (suc m) es h = let one = having_one m es h in let rest = below_most m es h in omega arith

  -- one number that none has leaves fewer
  below_short : (m k : ℕ) (es : List (End J)) → AreApart es → k < m → having k es ≡ 0 → below m es < m
  below_short zero k es h lt none = absurd (omega arith)
  below_short (suc m) k es h lt none =
      ⊎_elim (λ (here : k ≡ m). let last : having m es ≡ 0 = ap (λ n. having n es) (sym here) ∙ none in let rest = below_most m es h in omega arith)
      (λ (off : k ≢ m). let one = having_one m es h in let rest = below_short m k es h (omega arith) none in omega arith) (same_or_not k m)

  below_least : (m : ℕ) (es : List (End J)) → AreAllHome m es → m ≤ below m es
  below_least zero es h = omega arith
  below_least (suc m) es h =
      let last = there_is m es (h m (omega arith)) in
      let rest = below_least m es (λ k lt. h k (omega arith)) in
      omega arith

  -- as many as were made are all of them, and all of them are as many
  pub as_many : (m : ℕ) (es : List (End J)) → All (λ e. e.number < m) es → AreApart es → (length es ≡ m) ↔ AreAllHome m es
  as_many m es low apart =
      let all = below_all m es low in
      let most = below_most m es apart in (
        λ many k lt. elim (dec_le 1 (having k es)) [
          | yes some ↦ is_there k es (omega arith)
          | no n ↦ absurd (let none : having k es ≡ 0 = omega (arith, lt_of_not-le n) in let short = below_short m k es apart lt none in omega arith)
        ],
        λ home. let least = below_least m es home in omega arith,
      )
