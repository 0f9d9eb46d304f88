-- How many tickets in flight a connection admitted, counted in the table.
use Rattle.std.proofs.Common.{◌≡◌, ℕ, ◌+◌, ◌==◌, ◌||◌, ◌&&◌, Bool, true, false, not, if◌then◌else◌, nat_eq, List, [], ◌∷◌, ◌++◌, length, filter, Option, Some, None, is_some, refl, sym, ap, ◌∙◌, arith}
use Rattle.std.specs.Cmp.{nat_cmp_total}
use Rattle.std.specs.FinMap.{from_entries, get, len-empty, len-entries, entries, nat_cmp-IsAntisymmetric, same_map, values}
use Rattle.std.specs.List.{All, list_any}
use Rattle.std.specs.Map.{lookup}
use Rattle.std.specs.Option.{option_map, option_map_or, option_to_list}
use Rattle.std.specs.Ordering.{nat_cmp}
use Rattle.std.proofs.lemmas.Grind.{common_steps}
use Rattle.std.proofs.lemmas.List.Elements.{All-head, All-tail}
use Rattle.std.proofs.lemmas.Map.Views.{any-filter_same, exact_unsigned_eq}
use Rattle.gn_rules.specs.declared.config.Config.{Config}
use Rattle.gn_rules.specs.declared.receipt.Step.{Step}
use Rattle.gn_rules.specs.Flight.{Admission, admission, flying, flying_from, in_flight, is_routed, tickets}
use Rattle.gn_tables.specs.declared.flights.Flight.{Flight}
use Rattle.gn_tables.specs.Flying.{Flying}
use Rattle.gn_tables.specs.Origins.{flights_from, from_count}
use Rattle.gn_tables.proofs.MapLemmas.{get_entries}
use Rattle.gn_tables.proofs.OriginLemmas.{count_insert, none_from}
use Rattle.gn_table_router.specs.Tabled.{AreApart, AreFlying, flight_of}
use Rattle.gn_table_router.proofs.FlightLemmas.{ticket_listed}
use Rattle.gn_table_router.proofs.NumberLemmas.{apart_filter}

flip : (a b : ℕ) → (a == b) ≡ (b == a)
flip a b = grind (arith, common_steps)

module _ {A : Type 0} (past : List (Step A)) where
  -- what the table keeps of a ticket
  abbrev entry_of : ℕ → Option Admission → List (ℕ × Flight A)
  entry_of t o = option_to_list (option_map (λ a. (t, flight_of a)) o)

  -- what it keeps of some tickets
  abbrev entries_of : List ℕ → List (ℕ × Flight A)
  entries_of [] = []
  entries_of (t ∷ ts) = entry_of t (admission past t) ++ entries_of ts

  looked_up : (u : ℕ) (ts : List ℕ) → lookup (nat_eq u) (entries_of ts) ≡ (if list_any (λ t. u == t) ts then option_map flight_of (admission past u) else None)
  looked_up u [] = refl
  looked_up u (t ∷ ts) =
      let rest = looked_up u ts in
      elim (u == t) as (λ b. (u == t) ≡ b → lookup (nat_eq u) (entry_of t (admission past t) ++ entries_of ts)
      ≡ (if b || list_any (λ t. u == t) ts then option_map flight_of (admission past u) else None)) [
        | true ↦ λ e.
            let same : u ≡ t = exact_unsigned_eq u t e in
            ap (λ k. lookup (nat_eq u) (entry_of t (admission past k) ++ entries_of ts)) (sym same) ∙ itself e rest (admission past u) refl
        | false ↦ λ e. other e (admission past t) ∙ rest
      ] refl
    where
      itself : (u == t) ≡ true → lookup (nat_eq u) (entries_of ts) ≡ (if list_any (λ t. u == t) ts then option_map flight_of (admission past u) else None)
          → (o : Option Admission) → admission past u ≡ o → lookup (nat_eq u) (entry_of t o ++ entries_of ts) ≡ option_map flight_of (admission past u)
      itself e rest None is = rest ∙ rw is (either (list_any (λ t. u == t) ts))
        where
          either : (b : Bool) → ◌≡◌ {A = Option (Flight A)} (if b then None else None) None
          either true = refl
          either false = refl
      itself e rest (Some a) is = rw (is, e) refl

      other : (u == t) ≡ false → (o : Option Admission) → lookup (nat_eq u) (entry_of t o ++ entries_of ts) ≡ lookup (nat_eq u) (entries_of ts)
      other e None = refl
      other e (Some a) = rw e refl

  unlisted : (t : ℕ) (ts : List ℕ) → All (λ m. (m == t) ≡ false) ts → list_any (λ u. t == u) ts ≡ false
  unlisted t [] h = refl
  unlisted t (u ∷ ts) h =
      let first : (t == u) ≡ false = flip t u ∙ All-head (λ m. (m == t) ≡ false) u ts h in
      let rest : list_any (λ u. t == u) ts ≡ false = unlisted t ts (All-tail (λ m. (m == t) ≡ false) u ts h) in
      rw first rest

  module _ (c : ℕ) where
    abbrev is_own : Option Admission → Bool
    is_own o = option_map_or (λ a. a.origin == c) o false

    -- the table of some tickets counts those that c admitted
    counted : (ts : List ℕ) → AreApart ts → from_count c (values (from_entries {R = nat_cmp} (entries_of ts))) ≡ length (filter (λ t. is_own (admission past t)) ts)
    counted [] h = none_from c (entries (from_entries {R = nat_cmp} [])) (sym (len-entries (from_entries {R = nat_cmp} [])) ∙ len-empty nat_cmp (Flight A))
    counted (t ∷ ts) h = by (admission past t) (counted ts h.1)
      where
        gone : get (from_entries {R = nat_cmp} (entries_of ts)) t ≡ None
        gone = get_entries (entries_of ts) t ∙ looked_up t ts ∙ ap (λ b. if b then option_map flight_of (admission past t) else None) (unlisted t ts h.0)

        by : (o : Option Admission) → from_count c (values (from_entries {R = nat_cmp} (entries_of ts))) ≡ length (filter (λ t. is_own (admission past t)) ts)
            → from_count c (values (from_entries {R = nat_cmp} (entry_of t o ++ entries_of ts))) ≡ length (if is_own o then t ∷ (filter (λ t. is_own (admission past t)) ts) else (filter (λ t. is_own (admission past t)) ts))
        by None before = before
        by (Some a) before =
            count_insert c (from_entries (entries_of ts)) t (flight_of a) gone
            ∙ elim (a.origin == c) as (λ b. (if b then 1 else 0) + from_count c (values (from_entries {R = nat_cmp} (entries_of ts))) ≡ length (if b then t ∷ (filter (λ t. is_own (admission past t)) ts) else (filter (λ t. is_own (admission past t)) ts))) [
              | true ↦ omega (arith, before)
              | false ↦ omega (arith, before)
            ]

  -- what is in flight is kept of the tickets in flight
  kept_of : (u : ℕ) → option_map flight_of (in_flight past u) ≡ lookup (nat_eq u) (entries_of (flying past))
  kept_of u = sym (looked_up u (flying past) ∙ ap (λ b. if b then option_map flight_of (admission past u) else None) listed ∙ by (is_routed past u) (list_any (λ t. u == t) (tickets past)) refl)
    where
      listed : list_any (λ t. u == t) (flying past) ≡ (not (is_routed past u) && list_any (λ t. u == t) (tickets past))
      listed = any-filter_same (λ t. u == t) (λ t. not (is_routed past t)) (not (is_routed past u)) (λ t h. ap (λ w. not (is_routed past w)) (sym (exact_unsigned_eq u t h))) (tickets past)

      never : list_any (λ t. u == t) (tickets past) ≡ false → (o : Option Admission) → admission past u ≡ o → None ≡ option_map (flight_of {A = A}) o
      never h None is = refl
      never h (Some a) is = let there : list_any (λ t. u == t) (tickets past) ≡ true = ticket_listed past u (ap is_some is) in absurd (cc)

      by : (routed there : Bool) → list_any (λ t. u == t) (tickets past) ≡ there
          → (if not routed && there then option_map flight_of (admission past u) else None) ≡ option_map (flight_of {A = A}) (if routed then None else admission past u)
      by true there h = refl
      by false true h = refl
      by false false h = never h (admission past u) refl

-- the table of a router counts the tickets in flight that a connection admitted
pub flights_from_is : {A : Type 0} (s : Config) (past : List (Step A)) (m : ℕ) (f : Flying (Flight A)) → AreFlying s past m f → (c : ℕ)
    → flights_from c f ≡ length (flying_from past c)
flights_from_is {A} s past m f are c =
    let es = entries_of past (flying past) in
    let all : f.flights ≡ from_entries es =
    same_map nat_cmp_total nat_cmp-IsAntisymmetric f.flights (from_entries es) (λ u. are.each u ∙ kept_of past u ∙ sym (get_entries es u)) in
    ap (λ flights. from_count c (values flights)) all ∙ counted past c (flying past) (apart_filter (λ t. not (is_routed past t)) (tickets past) are.apart)
