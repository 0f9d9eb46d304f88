-- How many of the descriptors in flight came from a connection.
use Rattle.std.proofs.Common.{◌≡◌, ℕ, ◌+◌, ◌-◌, ◌^◌, ◌<◌, ◌≤◌, ◌==◌, true, false, cond, nat_eq, if◌then◌else◌, List, [], ◌∷◌, length, filter, map, Some, None, refl, sym, ap, ◌∙◌, arith}
use Rattle.std.specs.Prelude.{unwrap_or}
use Rattle.std.specs.declared.cmp.Ordering.TheVariants.{Less, Equal, Greater}
use Rattle.std.specs.Ordering.{nat_cmp, is_eq}
use Rattle.std.specs.Cmp.{nat_cmp_total}
use Rattle.std.specs.FinMap.{FinMap, find, put, get, insert, remove, len, values, entries, from_entries, entries-insert, get-entries, get-insert, get-remove, len-entries, len-empty, same_map, nat_cmp-IsAntisymmetric}
use Rattle.std.specs.FinMap.Entries.{by_order}
use Rattle.std.specs.Map.{lookup}
use Rattle.std.proofs.lemmas.Grind.{common_steps}
use Rattle.std.proofs.lemmas.List.{length-map}
use Rattle.std.proofs.lemmas.Map.Views.{exact_unsigned_eq}
use Rattle.gn_tables.specs.declared.flights.Flight.{Flight}
use Rattle.gn_tables.specs.Counts.{IsRecounted, count_at, unless_zero}
use Rattle.gn_tables.specs.Flying.{Flying}
use Rattle.gn_tables.specs.Origins.{AreCounts, flights_from, from_count}
use Rattle.gn_tables.proofs.MapLemmas.{same_test}

flip : (a b : ℕ) → (a == b) ≡ (b == a)
flip a b = grind (arith, common_steps)

module _ {A : Type 0} (c : ℕ) where
  abbrev all : List (ℕ × Flight A) → List (Flight A)
  all es = map (λ e. e.1) es

  -- one, where the flight came from there
  abbrev pub one : Flight A → ℕ
  one f = if f.from == c then 1 else 0

  count_cons : (f : Flight A) (fs : List (Flight A)) → from_count c (f ∷ fs) ≡ one f + from_count c fs
  count_cons f fs = elim (f.from == c) as (λ b. length (if b then f ∷ filter (λ g. g.from == c) fs else filter (λ g. g.from == c) fs) ≡ (if b then 1 else 0) + from_count c fs) [
    | true ↦ omega arith
    | false ↦ omega arith
  ]

  count_put : (k : ℕ) (f : Flight A) (es : List (ℕ × Flight A)) → find nat_cmp k es ≡ None → from_count c (all (put nat_cmp k f es)) ≡ one f + from_count c (all es)
  count_put k f [] h = count_cons f []
  count_put k f (e ∷ es) h =
      elim (nat_cmp k e.0) as (λ r. cond (is_eq r) (Some e.1) (find nat_cmp k es) ≡ None
      → from_count c (all (by_order r ((k, f) ∷ e ∷ es) ((e.0, f) ∷ es) (e ∷ put nat_cmp k f es))) ≡ one f + from_count c (all (e ∷ es))) [
        | Less ↦ λ g. count_cons f (all (e ∷ es))
        | Equal ↦ λ g. absurd (cc)
        | Greater ↦ λ g.
            let rest = count_put k f es g in
            let first = count_cons e.1 (all (put nat_cmp k f es)) in
            let old = count_cons e.1 (all es) in
            omega (arith, rest, first, old)
      ] h

  -- one more, under a new ticket
  pub count_insert : (m : FinMap nat_cmp (Flight A)) (k : ℕ) (f : Flight A) → get m k ≡ None → from_count c (values (insert m k f)) ≡ one f + from_count c (values m)
  count_insert m k f h = ap (λ (es : List (ℕ × Flight A)). from_count c (all es)) (entries-insert nat_cmp_total m k f) ∙ count_put k f (entries m) (sym (get-entries m k) ∙ h)

  -- one less
  pub count_remove : (m : FinMap nat_cmp (Flight A)) (k : ℕ) (f : Flight A) → get m k ≡ Some f → from_count c (values m) ≡ one f + from_count c (values (remove m k))
  count_remove m k f h = ap (λ (n : FinMap nat_cmp (Flight A)). from_count c (values n)) back ∙ count_insert (remove m k) k f gone
    where
      gone : get (remove m k) k ≡ None
      gone = get-remove nat_cmp_total m k k ∙ ap (λ b. cond b None (get m k)) (same_test k k ∙ itself)
        where
          itself : nat_eq k k ≡ true
          itself = grind (arith, common_steps)

      at : (q : ℕ) → get m q ≡ cond (nat_eq q k) (Some f) (cond (nat_eq q k) None (get m q))
      at q = elim (nat_eq q k) as (λ b. nat_eq q k ≡ b → get m q ≡ cond b (Some f) (cond b None (get m q))) [
        | true ↦ λ e. ap (get m) (exact_unsigned_eq q k e) ∙ h
        | false ↦ λ e. refl
      ] refl

      back : m ≡ insert (remove m k) k f
      back = same_map nat_cmp_total nat_cmp-IsAntisymmetric m (insert (remove m k) k f) (λ q.
          at q ∙ sym (get-insert nat_cmp_total (remove m k) k f q ∙ rw (get-remove nat_cmp_total m k q, same_test q k) refl))

  count_few : (fs : List (Flight A)) → from_count c fs ≤ length fs
  count_few [] = omega arith
  count_few (f ∷ fs) =
      let rest = count_few fs in
      elim (f.from == c) as (λ b. length (if b then f ∷ filter (λ g. g.from == c) fs else filter (λ g. g.from == c) fs) ≤ length (f ∷ fs)) [
        | true ↦ omega (arith, rest)
        | false ↦ omega (arith, rest)
      ]

  -- no more than there are
  pub count_fits : (m : FinMap nat_cmp (Flight A)) → from_count c (values m) ≤ len m
  count_fits m =
      let few = count_few (values m) in
      let same = length-map (entries m) (λ (e : ℕ × Flight A). e.1) in
      let many = len-entries m in
      omega (arith, few, same, many)

unless_is : (n : ℕ) → unwrap_or (unless_zero n) 0 ≡ n
unless_is n = elim (n == 0) as (λ b. (n == 0) ≡ b → unwrap_or (if b then None else Some n) 0 ≡ n) [
  | true ↦ λ e. sym (exact_unsigned_eq n 0 e)
  | false ↦ λ e. refl
] refl

module _ {A : Type 0} where
  -- what a table of counts says
  pub count_is : (counts : List (ℕ × ℕ)) (f : Flying (Flight A)) → AreCounts counts f → (c : ℕ) → count_at c counts ≡ flights_from c f
  count_is counts f are c = ap (λ o. unwrap_or o 0) (are c) ∙ unless_is (flights_from c f)

  pub none_from : (c : ℕ) (es : List (ℕ × Flight A)) → length es ≡ 0 → from_count c (map (λ e. e.1) es) ≡ 0
  none_from c [] h = refl
  none_from c (e ∷ es) h = absurd (omega arith)

  -- nothing is counted at first
  pub counts_none : (counts : List (ℕ × ℕ)) (es : List (ℕ × Flight A)) (most : ℕ) → counts ≡ [] → es ≡ [] → AreCounts counts (record { flights = from_entries es; most = most })
  counts_none counts es most none empty c =
      let few : length (entries (from_entries {R = nat_cmp} es)) ≡ 0 = sym (len-entries (from_entries es)) ∙ ap (λ (xs : List (ℕ × Flight A)). len (from_entries {R = nat_cmp} xs)) empty ∙ len-empty nat_cmp (Flight A) in
      ap (lookup (nat_eq c)) none ∙ ap unless_zero (sym (none_from c (entries (from_entries {R = nat_cmp} es)) few))

  module _ (counts after : List (ℕ × ℕ)) (m : FinMap nat_cmp (Flight A)) (most k : ℕ) (f : Flight A) (are : AreCounts counts (record { flights = m; most = most })) where
    -- one more is counted
    pub counts_added : get m k ≡ None → IsRecounted f.from (count_at f.from counts + 1) counts after → AreCounts after (record { flights = insert m k f; most = most })
    counts_added none raised c =
        let more = count_insert c m k f none in
        let was = count_is counts (record { flights = m; most = most }) are f.from in
        raised c ∙ elim (c == f.from) as (λ b. (c == f.from) ≡ b → (if b then unless_zero (count_at f.from counts + 1) else lookup (nat_eq c) counts) ≡ unless_zero (from_count c (values (insert m k f)))) [
          | true ↦ λ e.
              let same : c ≡ f.from = exact_unsigned_eq c f.from e in
              let there : one c f ≡ 1 = rw (flip f.from c ∙ e) refl in
              let here : from_count c (values m) ≡ from_count f.from (values m) = ap (λ d. from_count d (values m)) same in
              let sum : count_at f.from counts + 1 ≡ from_count c (values (insert m k f)) = omega (arith, more, was, there, here) in
              ap unless_zero sum
          | false ↦ λ e.
              let there : one c f ≡ 0 = rw (flip f.from c ∙ e) refl in
              let sum : from_count c (values m) ≡ from_count c (values (insert m k f)) = omega (arith, more, there) in
              are c ∙ ap unless_zero sum
        ] refl

    -- one less is counted
    pub counts_less : get m k ≡ Some f → IsRecounted f.from (count_at f.from counts - 1) counts after → AreCounts after (record { flights = remove m k; most = most })
    counts_less there lowered c =
        let less = count_remove c m k f there in
        let was = count_is counts (record { flights = m; most = most }) are f.from in
        lowered c ∙ elim (c == f.from) as (λ b. (c == f.from) ≡ b → (if b then unless_zero (count_at f.from counts - 1) else lookup (nat_eq c) counts) ≡ unless_zero (from_count c (values (remove m k)))) [
          | true ↦ λ e.
              let same : c ≡ f.from = exact_unsigned_eq c f.from e in
              let here : one c f ≡ 1 = rw (flip f.from c ∙ e) refl in
              let at : from_count c (values m) ≡ from_count f.from (values m) = ap (λ d. from_count d (values m)) same in
              let sum : count_at f.from counts - 1 ≡ from_count c (values (remove m k)) = omega (arith, less, was, here, at) in
              ap unless_zero sum
          | false ↦ λ e.
              let here : one c f ≡ 0 = rw (flip f.from c ∙ e) refl in
              let sum : from_count c (values m) ≡ from_count c (values (remove m k)) = omega (arith, less, here) in
              are c ∙ ap unless_zero sum
        ] refl

    -- a flight that is there is counted
    pub counted : get m k ≡ Some f → 0 < count_at f.from counts
    counted there =
        let less = count_remove f.from m k f there in
        let was = count_is counts (record { flights = m; most = most }) are f.from in
        let itself : (f.from == f.from) ≡ true = grind (arith, common_steps) in
        let here : one f.from f ≡ 1 = rw itself refl in
        omega (arith, less, was, here)

  -- a count fits its number, where there are few
  pub counts_fit : (counts : List (ℕ × ℕ)) (m : FinMap nat_cmp (Flight A)) (most : ℕ) → AreCounts counts (record { flights = m; most = most })
      → len m < most → most ≤ 4096 → (c : ℕ) → count_at c counts + 1 < 2 ^ 32
  counts_fit counts m most are few limit c =
      let fits = count_fits c m in
      let was = count_is counts (record { flights = m; most = most }) are c in
      omega (arith, few, limit, fits, was)
