-- What a cache of servents is after one is learned.
use Rattle.std.proofs.Common.{◌≡◌, ◌<◌, ◌≤◌, ℕ, zero, suc, ◌-◌, true, false, cond, List, [], ◌∷◌, take, length, Some, None, refl, ap, ◌∙◌, arith}
use Rattle.std.specs.Cmp.{IsEquivalence, unsigned_Decides}
use Rattle.std.specs.List.{IsDistinct}
use Rattle.std.specs.Map.{lookup, lookup_entry, keys_of, remove_entry}
use Rattle.std.specs.Option.{option_map_or}
use Rattle.std.proofs.lemmas.Cmp.{nat_list_eq_equiv}
use Rattle.std.proofs.lemmas.List.{length-take, take_all}
use Rattle.std.proofs.lemmas.Map.{lookup-remove_entry}
use Rattle.std.proofs.lemmas.Slice.Eq.{slice_eq-Decides}
use Rattle.lru.specs.LruCache.{LruCache, lru_cache, put_entries}
use Rattle.gn_wire.specs.declared.kind.Guid.{Guid}
use Rattle.gn_wire.specs.Keys.{is_same_id}
use Rattle.gn_wire.specs.contracts.kind.GuidPartialEq.TheImpl as derived
use Rattle.gn_kept.proofs.KeyLists.{apart_in_first, apart_without}
use Rattle.gn_tables.specs.Servents.{AreServents, Servents, learned}

servent_laws : IsEquivalence is_same_id
servent_laws = record {
  refl = λ a. nat_list_eq_equiv.refl a.0;
  symm = λ a b. nat_list_eq_equiv.symm a.0 b.0;
  congr = λ a b c. nat_list_eq_equiv.congr a.0 b.0 c.0;
}

-- two servents that are the same are one
one_servent : (a b : Guid) → is_same_id a b ≡ true → a ≡ b
one_servent a b same = ap (λ (id : List ℕ). record { 0 = id }) ((slice_eq-Decides unsigned_Decides a.0 b.0 (is_same_id a b) refl).0 same)

module _ (x : Guid) where
  abbrev others : List (Guid × ℕ) → List (Guid × ℕ)
  others es = remove_entry (is_same_id x) es

  -- the entry of x that is found has that very key
  found_key : (es : List (Guid × ℕ)) (e : Guid × ℕ) → lookup_entry (is_same_id x) es ≡ Some e → x ≡ e.0
  found_key [] e found = cc
  found_key (d ∷ es) e found =
      elim (is_same_id x d.0) as (λ b. is_same_id x d.0 ≡ b → cond b (Some d) (lookup_entry (is_same_id x) es) ≡ Some e → x ≡ e.0) [
        | true ↦ λ t h. let same : d ≡ e = cc in one_servent x d.0 t ∙ ap (λ (p : Guid × ℕ). p.0) same
        | false ↦ λ t h. found_key es e h
      ] refl found

  one_less : (es : List (Guid × ℕ)) (e : Guid × ℕ) → lookup_entry (is_same_id x) es ≡ Some e → suc (length (others es)) ≡ length es
  one_less [] e found = cc
  one_less (d ∷ es) e found =
      elim (is_same_id x d.0) as (λ b. cond b (Some d) (lookup_entry (is_same_id x) es) ≡ Some e → suc (length (cond b es (d ∷ others es))) ≡ suc (length es)) [
        | true ↦ λ h. refl
        | false ↦ λ h. ap suc (one_less es e h)
      ] found

  all_others : (es : List (Guid × ℕ)) → lookup_entry (is_same_id x) es ≡ None → others es ≡ es
  all_others [] none = refl
  all_others (d ∷ es) none =
      elim (is_same_id x d.0) as (λ b. cond b (Some d) (lookup_entry (is_same_id x) es) ≡ None → cond b es (d ∷ others es) ≡ d ∷ es) [
        | true ↦ λ h. cc
        | false ↦ λ h. ap (λ xs. d ∷ xs) (all_others es h)
      ] none

-- what `put` leaves is the list with the servent first
put_is : (c : LruCache Guid ℕ) (n : ℕ) (x : Guid) (from : ℕ) → c.cap ≡ suc n → length c.entries ≤ suc n
    → put_entries is_same_id c x from ≡ take c.cap ((x, from) ∷ remove_entry (is_same_id x) c.entries)
put_is c n x from size few =
    elim (lookup_entry (is_same_id x) c.entries) as (λ o. lookup_entry (is_same_id x) c.entries ≡ o
    → option_map_or (λ e. (e.0, from) ∷ remove_entry (is_same_id x) c.entries) o ((x, from) ∷ take (c.cap - 1) c.entries)
    ≡ take c.cap ((x, from) ∷ remove_entry (is_same_id x) c.entries)) [
      | None ↦ λ none. let less : c.cap - 1 ≡ n = omega (arith, size) in rw (less, size, all_others x c.entries none) refl
      | Some e ↦ λ found. rw (size, ← found_key x c.entries e found, take_all n (remove_entry (is_same_id x) c.entries) (omega (arith, few, one_less x c.entries e found))) refl
    ] refl

-- a cache as the table that it holds
abbrev pub shown : LruCache Guid ℕ → Servents
shown c = record { routes = c.entries; most = c.cap }

-- what a servent that is learned leaves
learned_first : (es : List (Guid × ℕ)) (n : ℕ) (x : Guid) (from : ℕ) → IsDistinct is_same_id (keys_of es) → AreServents (record { routes = take (suc n) ((x, from) ∷ remove_entry (is_same_id x) es); most = suc n })
learned_first es n x from distinct =
    let rest : List (Guid × ℕ) = remove_entry (is_same_id x) es in
    let gone : lookup (is_same_id x) rest ≡ None =
    lookup-remove_entry servent_laws (is_same_id x) (λ a b h. servent_laws.congr x a b h) x es distinct
    ∙ ap (λ b. cond b None (lookup (is_same_id x) es)) (servent_laws.refl x) in
    record {
      few = omega (arith, length-take n rest);
      distinct = apart_in_first servent_laws x rest n (apart_without is_same_id (is_same_id x) es distinct) gone;
    }

pub learned_in : (c new : LruCache Guid ℕ) (x : Guid) (from : ℕ) → 0 < c.cap → AreServents (shown c) → new ≡ lru_cache (put_entries (derived.eq-value).it c x from) c.cap
    → (shown new ≡ learned x from (shown c)) × (0 < new.cap) × AreServents (shown new)
learned_in c new x from positive are is = of_size c.cap refl
  where
    of_size : (m : ℕ) → c.cap ≡ m → (shown new ≡ learned x from (shown c)) × (0 < new.cap) × AreServents (shown new)
    of_size zero size = absurd (omega (arith, positive, size))
    of_size (suc n) size =
        let puts : put_entries is_same_id c x from ≡ take c.cap ((x, from) ∷ remove_entry (is_same_id x) c.entries) = put_is c n x from size (omega (arith, are.few, size)) in
        rw (is, puts) (refl, positive, rw size (learned_first c.entries n x from are.distinct))
