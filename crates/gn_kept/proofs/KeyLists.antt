-- Lists of entries in which no key stands twice.
use Rattle.std.proofs.Common.{◌≡◌, ℕ, zero, suc, Bool, true, false, cond, List, [], ◌∷◌, take, Some, None, refl}
use Rattle.std.specs.Cmp.{IsEquivalence}
use Rattle.std.specs.List.{IsDistinct, AllByRecursion}
use Rattle.std.specs.Map.{lookup, keys_of, remove_entry}
use Rattle.std.proofs.lemmas.List.{take-map}
use Rattle.std.proofs.lemmas.Map.Keys.{IsDistinct-tail, IsDistinct-head, IsDistinct-cons}
use Rattle.indexmap.proofs.MapLemmas.{distinct-take}

module _ {K X : Type 0} where
  -- what holds of all keys holds of those that stay
  all_stay : (test : K → Bool) (P : K → Type 0) (es : List (K × X)) → AllByRecursion P (keys_of es) → AllByRecursion P (keys_of (remove_entry test es))
  all_stay test P [] all = all
  all_stay test P (e ∷ es) all =
      elim (test e.0) as (λ b. AllByRecursion P (keys_of (cond b es (e ∷ remove_entry test es)))) [
        | true ↦ all.1
        | false ↦ (all.0, all_stay test P es all.1)
      ]

  -- without an entry the others are still apart
  pub apart_without : (eq : K → K → Bool) (test : K → Bool) (es : List (K × X)) → IsDistinct eq (keys_of es) → IsDistinct eq (keys_of (remove_entry test es))
  apart_without eq test [] apart = apart
  apart_without eq test (e ∷ es) apart =
      elim (test e.0) as (λ b. IsDistinct eq (keys_of (cond b es (e ∷ remove_entry test es)))) [
        | true ↦ IsDistinct-tail eq e.0 (keys_of es) apart
        | false ↦ IsDistinct-cons eq e.0 (keys_of (remove_entry test es)) (all_stay test (λ y. eq e.0 y ≡ false) es (IsDistinct-head eq e.0 (keys_of es) apart))
            (apart_without eq test es (IsDistinct-tail eq e.0 (keys_of es) apart))
      ]

  -- a key that isn't found differs from each of the first n
  differs : (eq : K → K → Bool) (k : K) (es : List (K × X)) (n : ℕ) → lookup (eq k) es ≡ None → AllByRecursion (λ y. eq k y ≡ false) (keys_of (take n es))
  differs eq k es zero none = tt
  differs eq k [] (suc n) none = tt
  differs eq k (e ∷ es) (suc n) none =
      elim (eq k e.0) as (λ b. cond b (Some e.1) (lookup (eq k) es) ≡ None → (b ≡ false) × AllByRecursion (λ y. eq k y ≡ false) (keys_of (take n es))) [
        | true ↦ λ h. cc
        | false ↦ λ h. (refl, differs eq k es n h)
      ] none

  -- a new key before the first n
  pub apart_in_first : {eq : K → K → Bool} (laws : IsEquivalence eq) (k : K) (es : List (K × X)) (n : ℕ) → IsDistinct eq (keys_of es) → lookup (eq k) es ≡ None
      → IsDistinct eq (k ∷ keys_of (take n es))
  apart_in_first {eq} laws k es n apart none =
      IsDistinct-cons eq k (keys_of (take n es)) (differs eq k es n none)
      (rw (← take-map (λ (e : K × X). e.0) n es) (distinct-take laws n (keys_of es) apart))
