-- The rule's lists are interleavings of what the ends saw, and as long as their jobs are many.
use Rattle.std.proofs.Common.{◌≡◌, ◌≢◌, ◌==◌, ℕ, zero, suc, ◌+◌, ◌<◌, List, [], ◌∷◌, length, map, get_or, sym, refl, ap, ◌∙◌, ⊎_elim, arith, eq-eqb, ne_eqb, lt_of_not-le, cond}
use Rattle.std.specs.Prelude.{All, AllPairs, Any, sum_by}
use Rattle.std.proofs.lemmas.Grind.{common_steps}
use Rattle.std.proofs.lemmas.List.{length-map}
use Rattle.std.proofs.lemmas.List.Elements.{All-tail}
use Rattle.std.proofs.lemmas.List.Sums.{sum_by-cons}
use native.Mathlib.Decide.{dec_le}
use Rattle.gn_stage.specs.Ends.{End}
use Rattle.gn_stage.specs.Interleaving.{IsInterleaving, items_of}
use Rattle.gn_stage.specs.Rule.{Owned, jobs_of, owned_by, Gathered, FitsSide, AreHome}
use Rattle.gn_stage.proofs.Sides.{Seats, same_or_not}

module _ {J : Type 0} where
  abbrev owners_of : List (Owned J) → List ℕ
  owners_of q = map (λ e. e.owner) q

  items_of-owned : (p : ℕ) (q : List (Owned J)) → items_of p (owners_of q) (jobs_of q) ≡ owned_by p q
  items_of-owned p [] = refl
  items_of-owned p (e ∷ q) = ap (λ l. cond (e.owner == p) (e.job ∷ l) l) (items_of-owned p q)

  -- each owner has a job
  owner_has : (q : List (Owned J)) (k d : ℕ) (p : ℕ) → k < length (owners_of q) → get_or (owners_of q) k d ≡ p → 0 < length (owned_by p q)
  owner_has [] k d p lt is = absurd (omega arith)
  owner_has (e ∷ q) zero d p lt is = rw (eq-eqb e.owner p is) (omega arith)
  owner_has (e ∷ q) (suc k) d p lt is = let h = owner_has q k d p (omega arith) is in grind (arith, common_steps, h)

  all_among : (g : Gathered J) (s : Seats) (q : List (Owned J)) → AreHome g → FitsSide g s q → All (λ o. Any (λ e. e.number ≡ o) g.home) (owners_of q)
  all_among g s q home h k d lt = elim (dec_le g.made (get_or (owners_of q) k d)) [
    | yes le ↦ absurd (let has = owner_has q k d _ lt refl in let none = ap length (h.later _ le).1 in omega arith)
    | no n ↦ home _ (lt_of_not-le n)
  ]

  pub interleaves : (g : Gathered J) (s : Seats) (q : List (Owned J)) → AreHome g → FitsSide g s q → IsInterleaving (jobs_of q) g.home
  interleaves g s q home h = record {
    owners = owners_of q;
    long = length-map q (λ e. e.owner) ∙ sym (length-map q (λ e. e.job));
    each = λ k d lt. items_of-owned _ q ∙ sym (h.home k d lt).whole;
    only = all_among g s q home h;
    apart = h.apart;
  }

  -- how many jobs of the end there are
  abbrev size : List (Owned J) → End J → ℕ
  size q e = length (owned_by e.number q)

  size_mine : (x : Owned J) (q : List (Owned J)) (e : End J) → x.owner ≡ e.number → size (x ∷ q) e ≡ size q e + 1
  size_mine x q e is = rw (eq-eqb x.owner e.number is) (omega arith)

  size_other : (x : Owned J) (q : List (Owned J)) (e : End J) → x.owner ≢ e.number → size (x ∷ q) e ≡ size q e
  size_other x q e n = rw (ne_eqb x.owner e.number n) refl

  abbrev Among : ℕ → List (End J) → Type 0
  Among p es = Any (λ e. e.number ≡ p) es

  not_among : (p : ℕ) (es : List (End J)) → All (λ e. p ≢ e.number) es → Among p es → ⊥
  not_among p es apart there = apart there.0 there.1 there.2 (sym (ap (λ (y : End J). y.number) there.3 ∙ there.4))

  pub among_tail : (p : ℕ) (e : End J) (es : List (End J)) → p ≢ e.number → Among p (e ∷ es) → Among p es
  among_tail p e es n (zero, x, lt, at, is) = absurd (n (sym (ap (λ (y : End J). y.number) at ∙ is)))
  among_tail p e es n (suc k, x, lt, at, is) = (k, x, omega arith, at, is)

  pub pairs_tail : (e : End J) (es : List (End J)) → AllPairs (λ a b. a.number ≢ b.number) (e ∷ es) → AllPairs (λ a b. a.number ≢ b.number) es
  pairs_tail e es h i j d lt below = h (suc i) (suc j) d (omega arith) (omega arith)

  pub pairs_head : (e : End J) (es : List (End J)) → AllPairs (λ a b. a.number ≢ b.number) (e ∷ es) → All (λ b. e.number ≢ b.number) es
  pairs_head e es h k d lt = h 0 (suc k) d (omega arith) (omega arith)

  sizes_other : (x : Owned J) (q : List (Owned J)) (es : List (End J)) → All (λ e. x.owner ≢ e.number) es → sum_by (size (x ∷ q)) es ≡ sum_by (size q) es
  sizes_other x q [] h = refl
  sizes_other x q (e ∷ es) h =
      let head = size_other x q e (h 0 e (omega arith)) in
      let rest = sizes_other x q es (All-tail (λ e. x.owner ≢ e.number) e es h) in
      let new = sum_by-cons (size (x ∷ q)) e es in
      let old = sum_by-cons (size q) e es in
      omega arith

  -- one job more of one of them
  sizes_more : (x : Owned J) (q : List (Owned J)) (es : List (End J)) → AllPairs (λ a b. a.number ≢ b.number) es → Among x.owner es → sum_by (size (x ∷ q)) es ≡ sum_by (size q) es + 1
  sizes_more x q [] apart there = let lt = there.2 in absurd (omega arith)
  sizes_more x q (e ∷ es) apart there =
      let new = sum_by-cons (size (x ∷ q)) e es in
      let old = sum_by-cons (size q) e es in
      ⊎_elim (λ (here : x.owner ≡ e.number). let head = size_mine x q e here in let rest = sizes_other x q es (λ k d lt same. pairs_head e es apart k d lt (sym here ∙ same)) in omega arith)
      (λ (off : x.owner ≢ e.number). let head = size_other x q e off in let rest = sizes_more x q es (pairs_tail e es apart) (among_tail x.owner e es off there) in omega arith) (same_or_not x.owner e.number)

  sizes_none : (es : List (End J)) → sum_by (size []) es ≡ 0
  sizes_none [] = refl
  sizes_none (e ∷ es) = let rest = sizes_none es in let now = sum_by-cons (size []) e es in omega arith

  sizes : (q : List (Owned J)) (es : List (End J)) → AllPairs (λ a b. a.number ≢ b.number) es → All (λ o. Among o es) (owners_of q) → sum_by (size q) es ≡ length (jobs_of q)
  sizes [] es apart only = sizes_none es
  sizes (x ∷ q) es apart only =
      let rest = sizes q es apart (λ k d lt. only (suc k) d (omega arith)) in
      let now = sizes_more x q es apart (only 0 0 (omega arith)) in omega arith

  sums_same : (q : List (Owned J)) (es : List (End J)) → All (λ e. e.jobs ≡ owned_by e.number q) es → sum_by (λ e. length e.jobs) es ≡ sum_by (size q) es
  sums_same q [] h = refl
  sums_same q (e ∷ es) h =
      let head : length e.jobs ≡ size q e = ap length (h 0 e (omega arith)) in
      let rest = sums_same q es (All-tail (λ e. e.jobs ≡ owned_by e.number q) e es h) in
      let all = sum_by-cons (λ (e : End J). length e.jobs) e es in
      let old = sum_by-cons (size q) e es in
      omega arith

  -- as many jobs as the ends saw, all together
  pub counts : (g : Gathered J) (s : Seats) (q : List (Owned J)) → AreHome g → FitsSide g s q → sum_by (λ e. length e.jobs) g.home ≡ length (jobs_of q)
  counts g s q home h = sums_same q g.home (λ k d lt. (h.home k d lt).whole) ∙ sizes q g.home h.apart (all_among g s q home h)
