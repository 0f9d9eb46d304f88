-- Entries that are searched from the first for a number.
use Rattle.std.proofs.Common.{◌≡◌, ◌<◌, ◌≤◌, ◌+◌, ℕ, zero, suc, Bool, true, false, not, cond, nat_eq, nat_lt, List, [], ◌∷◌, length, set, get_or, Option, Some, None, refl, sym, ap, ◌∙◌, arith}
use Rattle.std.specs.List.{position, position_or_len, remove}
use Rattle.std.specs.Map.{lookup, set_value, remove_entry}
use Rattle.std.proofs.lemmas.Bool.{ltb-true, ltb-false}

module _ {X : Type 0} (c : ℕ) where
  -- the first entry of c stands at this place
  abbrev IsFirst : List (ℕ × X) → ℕ → Type 0
  IsFirst [] i = ⊥
  IsFirst (e ∷ es) zero = nat_eq c e.0 ≡ true
  IsFirst (e ∷ es) (suc i) = (nat_eq c e.0 ≡ false) × IsFirst es i

  abbrev is_its : ℕ × X → Bool
  is_its e = nat_eq c e.0

  first_there : (es : List (ℕ × X)) → position_or_len is_its es < length es → IsFirst es (position_or_len is_its es)
  first_there [] h = absurd (omega (arith, h))
  first_there (e ∷ es) h =
      elim (nat_eq c e.0) as (λ b. nat_eq c e.0 ≡ b → cond (not b) (1 + position_or_len is_its es) 0 < length (e ∷ es) → IsFirst (e ∷ es) (cond (not b) (1 + position_or_len is_its es) 0)) [
        | true ↦ λ t f. t
        | false ↦ λ t f. let next : 1 + position_or_len is_its es ≡ suc (position_or_len is_its es) = omega arith in rw next (t, first_there es (omega (arith, f)))
      ] refl h

  none_there : (es : List (ℕ × X)) → length es ≤ position_or_len is_its es → lookup (nat_eq c) es ≡ None
  none_there [] h = refl
  none_there (e ∷ es) h =
      elim (nat_eq c e.0) as (λ b. length (e ∷ es) ≤ cond (not b) (1 + position_or_len is_its es) 0 → cond b (Some e.1) (lookup (nat_eq c) es) ≡ None) [
        | true ↦ λ f. absurd (omega (arith, f))
        | false ↦ λ f. none_there es (omega (arith, f))
      ] h

  is_first : (es : List (ℕ × X)) (i : ℕ) → Some i ≡ position is_its es → IsFirst es i
  is_first es i h =
      elim (nat_lt (position_or_len is_its es) (length es)) as (λ b. nat_lt (position_or_len is_its es) (length es) ≡ b → Some i ≡ cond b (Some (position_or_len is_its es)) None → IsFirst es i) [
        | true ↦ λ t f. let same : i ≡ position_or_len is_its es = cc in rw same (first_there es (ltb-true (position_or_len is_its es) (length es) t))
        | false ↦ λ t f. absurd (cc)
      ] refl h

  first_within : (es : List (ℕ × X)) (i : ℕ) → IsFirst es i → i < length es
  first_within [] i h = absurd h
  first_within (e ∷ es) zero h = omega arith
  first_within (e ∷ es) (suc i) h = let more = first_within es i h.1 in omega (arith, more)

  -- a place that is found is there
  pub found_within : (es : List (ℕ × X)) (i : ℕ) → Some i ≡ position is_its es → i < length es
  found_within es i h = first_within es i (is_first es i h)

  none_found : (es : List (ℕ × X)) → None ≡ position is_its es → lookup (nat_eq c) es ≡ None
  none_found es h =
      elim (nat_lt (position_or_len is_its es) (length es)) as (λ b. nat_lt (position_or_len is_its es) (length es) ≡ b → ◌≡◌ {A = Option ℕ} None (cond b (Some (position_or_len is_its es)) None) → lookup (nat_eq c) es ≡ None) [
        | true ↦ λ t f. absurd (cc)
        | false ↦ λ t f. none_there es (ltb-false (position_or_len is_its es) (length es) t)
      ] refl h

  found_at : (es : List (ℕ × X)) (i : ℕ) (d : ℕ × X) → IsFirst es i → lookup (nat_eq c) es ≡ Some (get_or es i d).1
  found_at [] i d h = absurd h
  found_at (e ∷ es) zero d h = rw h refl
  found_at (e ∷ es) (suc i) d h = rw h.0 (found_at es i d h.1)

  written_at : (es : List (ℕ × X)) (i : ℕ) (d : ℕ × X) (w : X) → IsFirst es i → set es i ((get_or es i d).0, w) ≡ set_value (nat_eq c) es w
  written_at [] i d w h = absurd h
  written_at (e ∷ es) zero d w h = rw h refl
  written_at (e ∷ es) (suc i) d w h = rw h.0 (ap (λ fs. e ∷ fs) (written_at es i d w h.1))

  taken_at : (es : List (ℕ × X)) (i : ℕ) → IsFirst es i → remove es i ≡ remove_entry (nat_eq c) es
  taken_at [] i h = absurd h
  taken_at (e ∷ es) zero h = rw h refl
  taken_at (e ∷ es) (suc i) h = rw h.0 (ap (λ fs. e ∷ fs) (taken_at es i h.1))

  -- the search goes over entries ds, which are these
  module _ (es ds : List (ℕ × X)) (are : ds ≡ es) where
    -- where it finds no place, there is no entry
    pub unplaced : None ≡ position is_its ds → lookup (nat_eq c) es ≡ None
    unplaced h = none_found es (h ∙ ap (position is_its) are)

    module _ (i : ℕ) (h : Some i ≡ position is_its ds) where
      first : IsFirst es i
      first = is_first es i (h ∙ ap (position is_its) are)

      -- the entry at the place that it finds is that of c
      pub placed : (e : ℕ × X) → e ≡ get_or es i e → lookup (nat_eq c) es ≡ Some e.1
      placed e is = found_at es i e first ∙ ap (λ (d : ℕ × X). Some d.1) (sym is)

      -- a value is written there
      pub written : (e : ℕ × X) (w : X) → e ≡ get_or es i e → set es i (e.0, w) ≡ set_value (nat_eq c) es w
      written e w is = ap (λ (d : ℕ × X). set es i (d.0, w)) is ∙ written_at es i e w first

      -- the entry is taken out there
      pub taken : remove es i ≡ remove_entry (nat_eq c) es
      taken = taken_at es i first
