-- A hashed table by numbers, seen as a finite map.
use Rattle.std.proofs.Common.{◌≡◌, ℕ, ◌+◌, ◌<◌, ◌≤◌, true, false, cond, nat_eq, is_some, List, [], ◌∷◌, ◌++◌, length, slice_get, None, Some, refl, sym, ap, subst, ◌∙◌, arith}
use Rattle.std.specs.declared.cmp.Ordering.TheVariants.{Less, Equal, Greater}
use Rattle.std.specs.Ordering.{nat_cmp, is_eq, eq_by_cmp}
use Rattle.std.specs.Cmp.{ranked, nat_cmp_total, nat_eq_equiv}
use Rattle.std.specs.List.{IsDistinct}
use Rattle.std.specs.Map.{lookup, keys_of}
use Rattle.std.specs.Option.{option_map, option_map_or}
use Rattle.std.specs.FinMap.{find, get, insert, remove, len, from_entries, get-from_entries, from_entries_push, same_map, get-remove, len-insert, len-empty, nat_cmp-IsAntisymmetric}
use Rattle.std.proofs.lemmas.Grind.{common_steps}
use Rattle.indexmap.specs.IndexMap.{IndexMap, insert_entry}
use Rattle.indexmap.proofs.CallerLemmas.{insert_entry-new}
use Rattle.std.proofs.lemmas.Map.Entries.{none_past_head}
use Rattle.std.proofs.lemmas.Map.{lookup-none}
use Rattle.std.proofs.lemmas.Map.Keys.{IsDistinct-tail}
use Rattle.gn_tables.specs.Flying.{IsAt}

below : (q k : ℕ) → q < k → false ≡ nat_eq q k
below q k h = grind (arith, common_steps)

same : (q k : ℕ) → q ≡ k → true ≡ nat_eq q k
same q k h = grind (arith, common_steps)

above : (q k : ℕ) → k < q → false ≡ nat_eq q k
above q k h = grind (arith, common_steps)

-- the order's test is that of equality
pub same_test : (q k : ℕ) → eq_by_cmp nat_cmp q k ≡ nat_eq q k
same_test q k =
    elim (nat_cmp q k) as (λ r. nat_cmp q k ≡ r → is_eq r ≡ nat_eq q k) [
      | Less ↦ λ e. let h : q < k = ranked q k Less (sym e) in below q k h
      | Equal ↦ λ e. let h : q ≡ k = ranked q k Equal (sym e) in same q k h
      | Greater ↦ λ e. let h : k < q = ranked q k Greater (sym e) in above q k h
    ] refl

flip : (q k : ℕ) → nat_eq k q ≡ nat_eq q k
flip q k = nat_eq_equiv.symm k q

module _ {X : Type 0} where
  pub find_lookup : (es : List (ℕ × X)) (q : ℕ) → find nat_cmp q es ≡ lookup (nat_eq q) es
  find_lookup [] q = refl
  find_lookup (e ∷ es) q = rw (same_test q e.0, find_lookup es q) refl

  -- a look-up in the map is one in the entries
  pub get_entries : (es : List (ℕ × X)) (q : ℕ) → get (from_entries {R = nat_cmp} es) q ≡ lookup (nat_eq q) es
  get_entries es q = get-from_entries nat_cmp_total es q ∙ find_lookup es q

  -- there are as many
  pub len_entries : (es : List (ℕ × X)) → IsDistinct nat_eq (keys_of es) → len (from_entries {R = nat_cmp} es) ≡ length es
  len_entries [] h = len-empty nat_cmp X
  len_entries (e ∷ es) h =
      let none : lookup (nat_eq e.0) es ≡ None = lookup-none (nat_eq e.0) es (none_past_head nat_eq_equiv e.0 e es h (nat_eq_equiv.refl e.0)) in
      let more : len (from_entries {R = nat_cmp} es) ≡ length es = len_entries es (IsDistinct-tail nat_eq e.0 (keys_of es) h) in
      len-insert nat_cmp_total (from_entries es) e.0 e.1
      ∙ ap (λ o. cond (is_some o) (len (from_entries {R = nat_cmp} es)) (len (from_entries {R = nat_cmp} es) + 1)) (get_entries es e.0 ∙ none)
      ∙ omega (arith, more)

  -- a new entry at the end
  pub add_entry : (es : List (ℕ × X)) (k : ℕ) (v : X) → lookup (nat_eq k) es ≡ None → from_entries {R = nat_cmp} (es ++ (k, v) ∷ []) ≡ insert (from_entries es) k v
  add_entry es k v h = from_entries_push nat_cmp_total nat_cmp-IsAntisymmetric es k v (find_lookup es k ∙ h)

  -- the entries without one
  pub remove_at : (es fs : List (ℕ × X)) (k : ℕ) → ((q : ℕ) → lookup (nat_eq q) fs ≡ cond (nat_eq k q) None (lookup (nat_eq q) es))
      → from_entries {R = nat_cmp} fs ≡ remove (from_entries es) k
  remove_at es fs k h = same_map nat_cmp_total nat_cmp-IsAntisymmetric _ _ (λ q. get_entries fs q ∙ h q
      ∙ sym (get-remove nat_cmp_total (from_entries es) k q ∙ rw (same_test q k, flip q k, get_entries es q) refl))

-- what is put at a new key
pub put_new : {X S : Type 0} (m : IndexMap ℕ X S) (fs : List (ℕ × X)) (k : ℕ) (v : X) → fs ≡ insert_entry nat_eq m.entries k v → get (from_entries {R = nat_cmp} m.entries) k ≡ None
    → from_entries {R = nat_cmp} fs ≡ insert (from_entries m.entries) k v
put_new m fs k v is none =
    let absent : lookup (nat_eq k) m.entries ≡ None = sym (get_entries m.entries k) ∙ none in
    ap from_entries (is ∙ insert_entry-new nat_eq m k v absent) ∙ add_entry m.entries k v absent

-- one more is within the limit, where there were fewer
pub put_fits : {X S : Type 0} (m : IndexMap ℕ X S) (fs : List (ℕ × X)) (k most : ℕ) (v : X) → IsDistinct nat_eq (keys_of fs) → fs ≡ insert_entry nat_eq m.entries k v → get (from_entries {R = nat_cmp} m.entries) k ≡ None
    → len (from_entries {R = nat_cmp} m.entries) < most → length fs ≤ most
put_fits m fs k most v distinct is none few =
    let more : len (insert (from_entries {R = nat_cmp} m.entries) k v) ≡ len (from_entries {R = nat_cmp} m.entries) + 1 =
    len-insert nat_cmp_total (from_entries m.entries) k v
    ∙ ap (λ o. cond (is_some o) (len (from_entries {R = nat_cmp} m.entries)) (len (from_entries {R = nat_cmp} m.entries) + 1)) none in
    let all : len (from_entries {R = nat_cmp} fs) ≡ len (insert (from_entries {R = nat_cmp} m.entries) k v) = ap len (put_new m fs k v is none) in
    omega (arith, few, more, all, len_entries fs distinct)

-- what is taken out at the place of a ticket is its, and the entries are those without it
pub taken_at : {X : Type 0} (es fs : List (ℕ × X)) (place ticket : ℕ) (e : ℕ × X) → Some e ≡ slice_get es place → IsAt es place ticket
    → ((q : ℕ) → lookup (nat_eq q) fs ≡ cond (nat_eq e.0 q) None (lookup (nat_eq q) es))
    → (Some e.1 ≡ lookup (nat_eq ticket) es) × ((q : ℕ) → lookup (nat_eq q) fs ≡ cond (nat_eq ticket q) None (lookup (nat_eq q) es))
taken_at {X} es fs place ticket e is at others =
    let same : Some e ≡ Some (ticket, at.0) = is ∙ at.1 in
    let key : e.0 ≡ ticket = ap (λ o. option_map_or (λ (x : ℕ × X). x.0) o 0) same in (
      ap (option_map (λ (x : ℕ × X). x.1)) same ∙ sym at.2,
      subst (λ k. (q : ℕ) → lookup (nat_eq q) fs ≡ cond (nat_eq k q) None (lookup (nat_eq q) es)) key others,
    )
