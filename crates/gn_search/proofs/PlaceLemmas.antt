-- Places in a list of entries, where one is looked for or taken out.
use Rattle.std.proofs.Common.{◌≡◌, ℕ, zero, suc, ◌+◌, ◌<◌, ◌≤◌, Bool, true, false, ◌&&◌, ◌||◌, not, cond, if◌then◌else◌, nat_lt, List, [], ◌∷◌, ◌++◌, get_or, length, reverse, take, Option, Some, None, refl, sym, ap, ◌∙◌, arith}
use Rattle.std.specs.Map.{lookup, remove_entry}
use Rattle.std.specs.Option.{option_to_list}
use Rattle.std.proofs.lemmas.Grind.{common_steps}
use Rattle.gn_wire.specs.declared.key.Key.{Key}
use Rattle.gn_wire.specs.declared.kind.Guid.{Guid}
use Rattle.gn_wire.specs.Keys.{is_same_id, is_same_key}
use Rattle.gn_rules.specs.declared.receipt.Step.{Step}
use Rattle.gn_rules.specs.SeenEntries.{entry_of, seen_entries}
use Rattle.gn_rules.specs.Servents.{hit_of, learned, servents}
use Rattle.gn_rules.proofs.EntryLemmas.{below_zero, zero_below, lookup_removed, ids_apart}
use Rattle.gn_rules.proofs.PastLemmas.{past_more}
use Rattle.gn_search.specs.Place.{place, is_before, before_after, route_after, place_after, source_after, later_after}

below_more : (n m : ℕ) → nat_lt (n + 1) (suc m) ≡ nat_lt n m
below_more n m = grind (arith, common_steps)

is_below : (n m : ℕ) → n < m → nat_lt n m ≡ true
is_below n m h = grind (arith, common_steps)

not_below : (n m : ℕ) → m ≤ n → nat_lt n m ≡ false
not_below n m h = grind (arith, common_steps)

-- an entry is found among the first n exactly where fewer than n stand before it
pub lookup_take : {K X : Type 0} (t : K → Bool) (n : ℕ) (es : List (K × X)) → lookup t (take n es) ≡ (if nat_lt (place t es) n then lookup t es else None)
lookup_take t zero es = sym (ap (λ b. cond b (lookup t es) None) (below_zero (place t es)))
lookup_take t (suc n) [] = sym (ap (λ b. cond b None None) (zero_below n))
lookup_take t (suc n) (e ∷ es) =
    elim (t e.0) as (λ b. cond b (Some e.1) (lookup t (take n es)) ≡ cond (nat_lt (cond b 0 (place t es + 1)) (suc n)) (cond b (Some e.1) (lookup t es)) None) [
      | true ↦ sym (ap (λ b. cond b (Some e.1) None) (zero_below n))
      | false ↦ lookup_take t n es ∙ sym (ap (λ b. cond b (lookup t es) None) (below_more (place t es) n))
    ]

-- it moves one place up exactly where the other stood before it
pub place_removed : {K X : Type 0} (t w : K → Bool) → ((k : K) → w k ≡ true → t k ≡ false) → (es : List (K × X))
    → place t es ≡ place t (remove_entry w es) + (if is_before t w es then 1 else 0)
place_removed t w apart [] = refl
place_removed t w apart (e ∷ es) =
    elim (w e.0) as (λ b. w e.0 ≡ b → cond (t e.0) 0 (place t es + 1) ≡ place t (cond b es (e ∷ remove_entry w es)) + cond (b || (not (t e.0) && is_before t w es)) 1 0) [
      | true ↦ λ h. rw (apart e.0 h) refl
      | false ↦ λ h.
          let rest = place_removed t w apart es in
          elim (t e.0) as (λ a. cond a 0 (place t es + 1) ≡ cond a 0 (place t (remove_entry w es) + 1) + cond (not a && is_before t w es) 1 0) [
            | true ↦ refl
            | false ↦ omega (arith, rest)
          ]
    ] refl

-- two entries keep their order where a third is taken out
pub before_removed : {K X : Type 0} (t u w : K → Bool) → ((k : K) → w k ≡ true → t k ≡ false) → ((k : K) → w k ≡ true → u k ≡ false) → (es : List (K × X))
    → is_before t u (remove_entry w es) ≡ is_before t u es
before_removed t u w apart other [] = refl
before_removed t u w apart other (e ∷ es) =
    elim (w e.0) as (λ b. w e.0 ≡ b → is_before t u (cond b es (e ∷ remove_entry w es)) ≡ (u e.0 || (not (t e.0) && is_before t u es))) [
      | true ↦ λ h. rw (other e.0 h, apart e.0 h) refl
      | false ↦ λ h. ap (λ r. u e.0 || (not (t e.0) && r)) (before_removed t u w apart other es)
    ] refl

pub found_among : {K X : Type 0} (t : K → Bool) (n : ℕ) (es : List (K × X)) → place t es < n → lookup t (take n es) ≡ lookup t es
found_among t n es h = lookup_take t n es ∙ ap (λ b. cond b (lookup t es) None) (is_below (place t es) n h)

pub missed_among : {K X : Type 0} (t : K → Bool) (n : ℕ) (es : List (K × X)) → n ≤ place t es → lookup t (take n es) ≡ None
missed_among t n es h = lookup_take t n es ∙ ap (λ b. cond b (lookup t es) None) (not_below (place t es) n h)

-- what one more hit makes of a search for x, where the servents are known by their IDs
module _ (x : Guid) (hit : Guid × ℕ) (known : List (Guid × ℕ)) where
  route_known : lookup (is_same_id x) (learned (Some hit) known) ≡ route_after x (Some hit) (lookup (is_same_id x) known)
  route_known =
      elim (is_same_id x hit.0) as (λ b. is_same_id x hit.0 ≡ b → cond b (Some hit.1) (lookup (is_same_id x) (remove_entry (is_same_id hit.0) known)) ≡ cond b (Some hit.1) (lookup (is_same_id x) known)) [
        | true ↦ λ h. refl
        | false ↦ λ h. lookup_removed (is_same_id x) (is_same_id hit.0) (ids_apart x hit.0 h) known
      ] refl

  place_known : place (is_same_id x) (learned (Some hit) known) ≡ place_after x (Some hit) known
  place_known =
      elim (is_same_id x hit.0) as (λ b. is_same_id x hit.0 ≡ b → cond b 0 (place (is_same_id x) (remove_entry (is_same_id hit.0) known) + 1) ≡ cond b 0 (cond (is_before (is_same_id x) (is_same_id hit.0) known) (place (is_same_id x) known) (place (is_same_id x) known + 1))) [
        | true ↦ λ h. refl
        | false ↦ λ h. one_up (is_before (is_same_id x) (is_same_id hit.0) known) _ _ (place_removed (is_same_id x) (is_same_id hit.0) (ids_apart x hit.0 h) known)
      ] refl
    where
      one_up : (b : Bool) (n m : ℕ) → n ≡ m + cond b 1 0 → m + 1 ≡ cond b n (n + 1)
      one_up true n m h = omega arith
      one_up false n m h = omega arith

before_known : (x y : Guid) (hit : Guid × ℕ) (known : List (Guid × ℕ))
    → is_before (is_same_id x) (is_same_id y) (learned (Some hit) known) ≡ (is_same_id y hit.0 || (not (is_same_id x hit.0) && is_before (is_same_id x) (is_same_id y) known))
before_known x y hit known =
    elim (is_same_id y hit.0) as (λ b. is_same_id y hit.0 ≡ b → (b || (not (is_same_id x hit.0) && is_before (is_same_id x) (is_same_id y) (remove_entry (is_same_id hit.0) known))) ≡ (b || (not (is_same_id x hit.0) && is_before (is_same_id x) (is_same_id y) known))) [
      | true ↦ λ h. refl
      | false ↦ λ h. elim (is_same_id x hit.0) as (λ a. is_same_id x hit.0 ≡ a → (not a && is_before (is_same_id x) (is_same_id y) (remove_entry (is_same_id hit.0) known)) ≡ (not a && is_before (is_same_id x) (is_same_id y) known)) [
        | true ↦ λ e. refl
        | false ↦ λ e. before_removed (is_same_id x) (is_same_id y) (is_same_id hit.0) (ids_apart x hit.0 e) (ids_apart y hit.0 h) known
      ] refl
    ] refl

before_learned : (x y : Guid) (hit : Option (Guid × ℕ)) (known : List (Guid × ℕ))
    → is_before (is_same_id x) (is_same_id y) (learned hit known) ≡ before_after x y hit (is_before (is_same_id x) (is_same_id y) known)
before_learned x y None known = refl
before_learned x y (Some hit) known = before_known x y hit known

route_learned : (x : Guid) (hit : Option (Guid × ℕ)) (known : List (Guid × ℕ))
    → lookup (is_same_id x) (learned hit known) ≡ route_after x hit (lookup (is_same_id x) known)
route_learned x None known = refl
route_learned x (Some hit) known = route_known x hit known

place_learned : (x : Guid) (hit : Option (Guid × ℕ)) (known : List (Guid × ℕ))
    → place (is_same_id x) (learned hit known) ≡ place_after x hit known
place_learned x None known = refl
place_learned x (Some hit) known = place_known x hit known

source_found : (k : Key) (entry : Option (Key × ℕ)) (es : List (Key × ℕ)) → lookup (is_same_key k) (option_to_list entry ++ es) ≡ source_after k entry (lookup (is_same_key k) es)
source_found k None es = refl
source_found k (Some e) es = refl

later_found : (k : Key) (entry : Option (Key × ℕ)) (es : List (Key × ℕ)) → place (is_same_key k) (option_to_list entry ++ es) ≡ later_after k entry (place (is_same_key k) es)
later_found k None es = refl
later_found k (Some e) es = refl

-- what searches have found, one step on
module _ {A : Type 0} (steps : List (Step A)) (i : ℕ) (step : Step A) (within : i < length steps) (is : step ≡ get_or steps i step) where
  pub source_more : (k : Key) (found : Option (Key × ℕ)) (source now : Option ℕ) → found ≡ entry_of (reverse (take i steps)) step.event step.reply
      → source ≡ lookup (is_same_key k) (seen_entries (reverse (take i steps))) → now ≡ source_after k found source
      → now ≡ lookup (is_same_key k) (seen_entries (reverse (take (i + 1) steps)))
  source_more k found source now found_is source_is now_is =
      now_is
      ∙ ap (λ e. source_after k e source) found_is
      ∙ ap (source_after k (entry_of (reverse (take i steps)) step.event step.reply)) source_is
      ∙ sym (source_found k (entry_of (reverse (take i steps)) step.event step.reply) (seen_entries (reverse (take i steps))))
      ∙ sym (ap (λ past. lookup (is_same_key k) (seen_entries past)) (past_more steps i step within is))

  pub later_more : (k : Key) (found : Option (Key × ℕ)) (later now : ℕ) → found ≡ entry_of (reverse (take i steps)) step.event step.reply
      → later ≡ place (is_same_key k) (seen_entries (reverse (take i steps))) → now ≡ later_after k found later
      → now ≡ place (is_same_key k) (seen_entries (reverse (take (i + 1) steps)))
  later_more k found later now found_is later_is now_is =
      now_is
      ∙ ap (λ e. later_after k e later) found_is
      ∙ ap (later_after k (entry_of (reverse (take i steps)) step.event step.reply)) later_is
      ∙ sym (later_found k (entry_of (reverse (take i steps)) step.event step.reply) (seen_entries (reverse (take i steps))))
      ∙ sym (ap (λ past. place (is_same_key k) (seen_entries past)) (past_more steps i step within is))

  pub before_more : (x y : Guid) (found : Option (Guid × ℕ)) (later now : Bool) → found ≡ hit_of (reverse (take i steps)) step.event step.reply
      → later ≡ is_before (is_same_id x) (is_same_id y) (servents (reverse (take i steps))) → now ≡ before_after x y found later
      → now ≡ is_before (is_same_id x) (is_same_id y) (servents (reverse (take (i + 1) steps)))
  before_more x y found later now found_is later_is now_is =
      now_is
      ∙ ap (λ h. before_after x y h later) found_is
      ∙ ap (before_after x y (hit_of (reverse (take i steps)) step.event step.reply)) later_is
      ∙ sym (before_learned x y (hit_of (reverse (take i steps)) step.event step.reply) (servents (reverse (take i steps))))
      ∙ sym (ap (λ past. is_before (is_same_id x) (is_same_id y) (servents past)) (past_more steps i step within is))

  pub route_more : (x : Guid) (found : Option (Guid × ℕ)) (route now : Option ℕ) → found ≡ hit_of (reverse (take i steps)) step.event step.reply
      → route ≡ lookup (is_same_id x) (servents (reverse (take i steps))) → now ≡ route_after x found route
      → now ≡ lookup (is_same_id x) (servents (reverse (take (i + 1) steps)))
  route_more x found route now found_is route_is now_is =
      now_is
      ∙ ap (λ h. route_after x h route) found_is
      ∙ ap (route_after x (hit_of (reverse (take i steps)) step.event step.reply)) route_is
      ∙ sym (route_learned x (hit_of (reverse (take i steps)) step.event step.reply) (servents (reverse (take i steps))))
      ∙ sym (ap (λ past. lookup (is_same_id x) (servents past)) (past_more steps i step within is))

  pub place_more : (x : Guid) (found : Option (Guid × ℕ)) (now : ℕ) → found ≡ hit_of (reverse (take i steps)) step.event step.reply
      → now ≡ place_after x found (servents (reverse (take i steps))) → now ≡ place (is_same_id x) (servents (reverse (take (i + 1) steps)))
  place_more x found now found_is now_is =
      now_is
      ∙ ap (λ h. place_after x h (servents (reverse (take i steps)))) found_is
      ∙ sym (place_learned x (hit_of (reverse (take i steps)) step.event step.reply) (servents (reverse (take i steps))))
      ∙ sym (ap (λ past. place (is_same_id x) (servents past)) (past_more steps i step within is))
