-- Lists of jobs with owners.
use Rattle.std.proofs.Common.{◌≡◌, ◌≢◌, ℕ, List, [], ◌∷◌, ◌++◌, refl, ap, arith, eq-eqb, ne_eqb}
use Rattle.std.proofs.lemmas.Grind.{common_steps}
use Rattle.gn_stage.specs.Rule.{Owned, owned, jobs_of, owned_by}

module _ {J : Type 0} where
  pub owned_by-mine : (p : ℕ) (x : J) (q : List (Owned J)) → owned_by p (q ++ owned p x ∷ []) ≡ owned_by p q ++ x ∷ []
  owned_by-mine p x [] = rw (eq-eqb p p refl) refl
  owned_by-mine p x (e ∷ q) = let h = owned_by-mine p x q in grind (arith, common_steps, h)

  pub owned_by-other : (p k : ℕ) (x : J) (q : List (Owned J)) → p ≢ k → owned_by k (q ++ owned p x ∷ []) ≡ owned_by k q
  owned_by-other p k x [] n = rw (ne_eqb p k n) refl
  owned_by-other p k x (e ∷ q) n = let h = owned_by-other p k x q n in grind (arith, common_steps, h)

  pub jobs_of-push : (p : ℕ) (x : J) (q : List (Owned J)) → jobs_of (q ++ owned p x ∷ []) ≡ jobs_of q ++ x ∷ []
  jobs_of-push p x [] = refl
  jobs_of-push p x (e ∷ q) = ap (λ l. e.job ∷ l) (jobs_of-push p x q)
