-- The known servents are those of all hits, each at its newest.
use Rattle.std.proofs.Common.{◌≡◌, ℕ, zero, suc, ◌+◌, Bool, true, false, ◌||◌, cond, if◌then◌else◌, nat_lt, List, [], ◌∷◌, ◌++◌, length, take, Option, Some, None, refl, ap, ◌∙◌, arith}
use Rattle.std.specs.List.{list_any}
use Rattle.std.specs.Map.{lookup, remove_entry}
use Rattle.std.specs.Option.{option_to_list}
use Rattle.gn_wire.specs.declared.kind.Guid.{Guid}
use Rattle.gn_wire.specs.Keys.{is_same_id}
use Rattle.gn_rules.specs.declared.receipt.Step.{Step}
use Rattle.gn_rules.specs.Servents.{hit_of, learned, servents}
use Rattle.gn_rules.specs.ServentLaw.{hits, hits_after, servent_count, others, ServentRouteIsLast}
use Rattle.gn_rules.proofs.EntryLemmas.{below_zero, below_more, zero_below, lookup_removed, ids_apart}

-- each servent once, with its newest hit, the newest first
abbrev newest : List (Guid × ℕ) → List (Guid × ℕ)
newest [] = []
newest (hit ∷ earlier) = hit ∷ remove_entry (is_same_id hit.0) (newest earlier)

-- whether x has a hit among these
abbrev has_hit : Guid → List (Guid × ℕ) → Bool
has_hit x es = list_any (λ hit. is_same_id x hit.0) es

learned_newest : (hit : Option (Guid × ℕ)) (known all : List (Guid × ℕ)) → known ≡ newest all → learned hit known ≡ newest (option_to_list hit ++ all)
learned_newest None known all same = same
learned_newest (Some hit) known all same = ap (λ es. hit ∷ remove_entry (is_same_id hit.0) es) same

servents_newest : {A : Type 0} (past : List (Step A)) → servents past ≡ newest (hits past)
servents_newest [] = refl
servents_newest (step ∷ past) = learned_newest (hit_of past step.event step.reply) (servents past) (hits past) (servents_newest past)

module _ (x y : Guid) (other : is_same_id x y ≡ false) where
  -- without a hit of y, x has one as before
  has_hit_removed : (es : List (Guid × ℕ)) → has_hit x (remove_entry (is_same_id y) es) ≡ has_hit x es
  has_hit_removed [] = refl
  has_hit_removed (e ∷ es) =
      elim (is_same_id y e.0) as (λ b. is_same_id y e.0 ≡ b → has_hit x (cond b es (e ∷ remove_entry (is_same_id y) es)) ≡ (is_same_id x e.0 || has_hit x es)) [
        | true ↦ λ h. rw (ids_apart x y other e.0 h) refl
        | false ↦ λ h. ap (λ b. is_same_id x e.0 || b) (has_hit_removed es)
      ] refl

  -- the hits after x lose the same one
  after_removed : (es : List (Guid × ℕ)) → hits_after x (remove_entry (is_same_id y) es) ≡ remove_entry (is_same_id y) (hits_after x es)
  after_removed [] = refl
  after_removed (e ∷ es) =
      elim (is_same_id y e.0) as (λ b. is_same_id y e.0 ≡ b → hits_after x (cond b es (e ∷ remove_entry (is_same_id y) es)) ≡ remove_entry (is_same_id y) (cond (is_same_id x e.0) [] (e ∷ hits_after x es))) [
        | true ↦ λ h. rw (ids_apart x y other e.0 h, h) refl
        | false ↦ λ h. elim (is_same_id x e.0) as (λ a. cond a [] (e ∷ hits_after x (remove_entry (is_same_id y) es)) ≡ remove_entry (is_same_id y) (cond a [] (e ∷ hits_after x es))) [
          | true ↦ refl
          | false ↦ rw h (ap (λ rest. e ∷ rest) (after_removed es))
        ]
      ] refl

-- one fewer, where y has a hit
length_removed : (y : Guid) (es : List (Guid × ℕ)) → length es ≡ length (remove_entry (is_same_id y) es) + cond (has_hit y es) 1 0
length_removed y [] = refl
length_removed y (e ∷ es) =
    elim (is_same_id y e.0) as (λ b. suc (length es) ≡ length (cond b es (e ∷ remove_entry (is_same_id y) es)) + cond (b || has_hit y es) 1 0) [
      | true ↦ omega arith
      | false ↦ omega (arith, length_removed y es)
    ]

module _ (x : Guid) where
  lookup_newest : (es : List (Guid × ℕ)) → lookup (is_same_id x) (newest es) ≡ lookup (is_same_id x) es
  lookup_newest [] = refl
  lookup_newest (e ∷ es) =
      elim (is_same_id x e.0) as (λ b. is_same_id x e.0 ≡ b → cond b (Some e.1) (lookup (is_same_id x) (remove_entry (is_same_id e.0) (newest es))) ≡ cond b (Some e.1) (lookup (is_same_id x) es)) [
        | true ↦ λ h. refl
        | false ↦ λ h. lookup_removed (is_same_id x) (is_same_id e.0) (ids_apart x e.0 h) (newest es) ∙ lookup_newest es
      ] refl

  has_hit_newest : (es : List (Guid × ℕ)) → has_hit x (newest es) ≡ has_hit x es
  has_hit_newest [] = refl
  has_hit_newest (e ∷ es) =
      elim (is_same_id x e.0) as (λ b. is_same_id x e.0 ≡ b → (b || has_hit x (remove_entry (is_same_id e.0) (newest es))) ≡ (b || has_hit x es)) [
        | true ↦ λ h. refl
        | false ↦ λ h. has_hit_removed x e.0 h (newest es) ∙ has_hit_newest es
      ] refl

  after_newest : (es : List (Guid × ℕ)) → hits_after x (newest es) ≡ newest (hits_after x es)
  after_newest [] = refl
  after_newest (e ∷ es) =
      elim (is_same_id x e.0) as (λ b. is_same_id x e.0 ≡ b → cond b [] (e ∷ hits_after x (remove_entry (is_same_id e.0) (newest es))) ≡ newest (cond b [] (e ∷ hits_after x es))) [
        | true ↦ λ h. refl
        | false ↦ λ h. ap (λ rest. e ∷ rest) (after_removed x e.0 h (newest es) ∙ ap (remove_entry (is_same_id e.0)) (after_newest es))
      ] refl

  -- x is found among the first m exactly where fewer than m stand before it
  lookup_take : (m : ℕ) (es : List (Guid × ℕ)) → lookup (is_same_id x) (take m es) ≡ (if nat_lt (length (hits_after x es)) m then lookup (is_same_id x) es else None)
  lookup_take zero es = rw (below_zero (length (hits_after x es))) refl
  lookup_take (suc m) [] = rw (zero_below m) refl
  lookup_take (suc m) (e ∷ es) =
      elim (is_same_id x e.0) as (λ b. cond b (Some e.1) (lookup (is_same_id x) (take m es)) ≡ cond (nat_lt (length (cond b [] (e ∷ hits_after x es))) (suc m)) (cond b (Some e.1) (lookup (is_same_id x) es)) None) [
        | true ↦ rw (zero_below m) refl
        | false ↦ rw (below_more (length (hits_after x es)) m) (lookup_take m es)
      ]

-- each servent once: as many as there are different ones
length_newest : (es : List (Guid × ℕ)) → length (newest es) ≡ servent_count es
length_newest [] = refl
length_newest (e ∷ es) =
    counted (has_hit e.0 es) (length (newest es)) (length (remove_entry (is_same_id e.0) (newest es))) (servent_count es) (length_newest es)
    (length_removed e.0 (newest es) ∙ ap (λ b. length (remove_entry (is_same_id e.0) (newest es)) + cond b 1 0) (has_hit_newest e.0 es))
  where
    counted : (b : Bool) (n less count : ℕ) → n ≡ count → n ≡ less + cond b 1 0 → suc less ≡ count + cond b 0 1
    counted true n less count all without = omega arith
    counted false n less count all without = omega arith

pub servent_route_is_last : (A : Type 0) → ServentRouteIsLast A
servent_route_is_last A s past x =
    let all : List (Guid × ℕ) = hits past in
    let before : length (hits_after x (newest all)) ≡ others past x = ap length (after_newest x all) ∙ length_newest (hits_after x all) in
    ap (λ known. lookup (is_same_id x) (take s.numbers.servents known)) (servents_newest past)
    ∙ lookup_take x s.numbers.servents (newest all)
    ∙ rw (before, lookup_newest x all) refl
