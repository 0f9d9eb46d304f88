-- What the tables say of the steps.
use Rattle.std.proofs.Common.{◌≡◌, ℕ, ◌+◌, ◌<◌, ◌==◌, ◌||◌, Bool, is_some, true, false, cond, if◌then◌else◌, List, [], ◌∷◌, ◌++◌, IfSome, length, map, take, zero, suc, Option, Some, None, nat_eq, refl, sym, ap, ◌∙◌, arith, drop, subst}
use Rattle.std.specs.List.{list_any, slice_get}
use Rattle.std.specs.Option.{option_map, option_to_list}
use Rattle.std.specs.FinMap as map
use Rattle.std.specs.Map.{lookup, keys_of}
use Rattle.std.specs.Ordering.{nat_cmp}
use Rattle.std.proofs.lemmas.List.{length-map}
use Rattle.std.proofs.lemmas.Option.{slice_get-map}
use Rattle.std.proofs.lemmas.List.Elements.{All-nil}
use Rattle.std.proofs.lemmas.Map.Views.{exact_unsigned_eq}
use Rattle.gn_wire.specs.Packet.{Packet}
use Rattle.gn_rules.specs.declared.config.Config.{Config}
use Rattle.gn_rules.specs.declared.receipt.Step.{Step}
use Rattle.gn_rules.specs.History.{connections, live, live_connections}
use Rattle.gn_rules.specs.Output.{out, rows}
use Rattle.gn_rules.proofs.StepLemmas.{is_listed, map_map}
use Rattle.gn_rules.specs.Statistics.{no_stats}
use Rattle.gn_tables.specs.Flying.{Flying}
use Rattle.gn_tables.specs.Outputs.{output_of}
use Rattle.gn_table_router.specs.declared.tables.Tables.{Tables}
use Rattle.gn_table_router.specs.Tabled.{IsTabled, outputs}

-- a search among entries that are made of numbers
lookup_made : {X : Type 0} (f : ℕ → X) (c : ℕ) (ns : List ℕ)
    → lookup (nat_eq c) (map (λ n. (n, f n)) ns) ≡ cond (list_any (λ d. c == d) ns) (Some (f c)) None
lookup_made f c [] = refl
lookup_made {X} f c (n ∷ ns) =
    elim (c == n) as (λ b. (c == n) ≡ b → cond b (Some (f n)) (lookup (nat_eq c) (map (λ n. (n, f n)) ns)) ≡ cond (b || list_any (λ d. c == d) ns) (Some (f c)) None) [
      | true ↦ λ e. ap (λ m. Some (f m)) (sym (exact_unsigned_eq c n e))
      | false ↦ λ e. lookup_made f c ns
    ] refl

-- the output queue of a connection is its output, where it is live
pub output_is : {A : Type 0} (s : Config) (past : List (Step A)) (c : ℕ)
    → output_of c (outputs s past) ≡ cond (live past c) (Some (out past c)) None
output_is s past c =
    lookup_made (out past) c (live_connections past) ∙ ap (λ b. cond b (Some (out past c)) None) (is_listed past c)

drop_nil : {X : Type 0} (n : ℕ) → ◌≡◌ {A = List X} (drop n []) []
drop_nil zero = refl
drop_nil (suc n) = refl

here : {X : Type 0} (xs : List X) (i : ℕ) → drop i xs ≡ option_to_list (slice_get xs i) ++ drop (suc i) xs
here [] i = drop_nil i ∙ sym (drop_nil (suc i))
here (x ∷ xs) zero = refl
here (x ∷ xs) (suc i) = here xs i

-- the item at a place stands before those after it
pub item_at : {X : Type 0} (xs : List X) (i : ℕ) (found : Option X) → found ≡ slice_get xs i → drop i xs ≡ option_to_list found ++ drop (i + 1) xs
item_at xs i found is =
    let next : suc i ≡ i + 1 = omega arith in
    here xs i ∙ ap (λ x. option_to_list x ++ drop (suc i) xs) (sym is) ∙ ap (λ n. option_to_list found ++ drop n xs) next

module _ {A : Type 0} (s : Config) (past : List (Step A)) (t : Tables A) (are : IsTabled s past t) where
  output_there : (c : ℕ) → output_of c t.neighbours ≡ cond (live past c) (Some (out past c)) None
  output_there c = ap (output_of c) are.neighbours_are ∙ output_is s past c

  pub output_known : (c : ℕ) → option_map length (output_of c t.neighbours) ≡ (if live past c then Some (length (out past c)) else None)
  output_known c =
      ap (option_map length) (output_there c)
      ∙ elim (live past c) as (λ b. option_map length (cond b (Some (out past c)) None) ≡ cond b (Some (length (out past c))) None) [ true ↦ refl | false ↦ refl ]

  pub count_known : length t.neighbours.rows ≡ length (live_connections past)
  count_known = ap (λ l. length l.rows) are.neighbours_are ∙ length-map (live_connections past) (λ c. (c, out past c))

  -- a live connection with its output, and with the count of it
  abbrev row : ℕ → ℕ × List Packet
  row c = (c, out past c)

  abbrev counted : ℕ → ℕ × ℕ
  counted c = (c, length (out past c))

  -- the row at a place is that of the live connection that stands there
  row_known : (i : ℕ) → slice_get t.neighbours.rows i ≡ option_map row (slice_get (live_connections past) i)
  row_known i = ap (λ l. slice_get l.rows i) are.neighbours_are ∙ slice_get-map row (live_connections past) i

  counted_row : (i : ℕ) (found : Option (ℕ × ℕ)) → found ≡ option_map (λ r. (r.0, length r.1)) (slice_get t.neighbours.rows i)
      → found ≡ option_map counted (slice_get (live_connections past) i)
  counted_row i found is =
      let count : ℕ × List Packet → ℕ × ℕ = λ r. (r.0, length r.1) in
      is ∙ ap (option_map count) (row_known i) ∙ both (slice_get (live_connections past) i)
    where
      both : (o : Option ℕ) → option_map {U = ℕ × ℕ} (λ (r : ℕ × List Packet). (r.0, length r.1)) (option_map row o) ≡ option_map counted o
      both None = refl
      both (Some c) = refl

  -- so the connection at a place is known, and how many packets wait for it
  pub number_known : (i : ℕ) (found : Option (ℕ × ℕ)) → found ≡ option_map (λ r. (r.0, length r.1)) (slice_get t.neighbours.rows i)
      → option_map (λ r. r.0) found ≡ slice_get (live_connections past) i
  number_known i found is = ap (option_map (λ (r : ℕ × ℕ). r.0)) (counted_row i found is) ∙ both (slice_get (live_connections past) i)
    where
      both : (o : Option ℕ) → option_map (λ (r : ℕ × ℕ). r.0) (option_map counted o) ≡ o
      both None = refl
      both (Some c) = refl

  pub waiting_known : (i : ℕ) (found : Option (ℕ × ℕ)) → found ≡ option_map (λ r. (r.0, length r.1)) (slice_get t.neighbours.rows i)
      → IfSome found (λ r. r.1 ≡ length (out past r.0))
  waiting_known i found is = subst (λ (o : Option (ℕ × ℕ)). IfSome o (λ r. r.1 ≡ length (out past r.0))) (sym (counted_row i found is)) (held (slice_get (live_connections past) i))
    where
      held : (o : Option ℕ) → IfSome (option_map counted o) (λ r. r.1 ≡ length (out past r.0))
      held None = tt
      held (Some c) = refl

  -- the first packet that waits is the first of the output, where the connection is live
  pub front_known : (c : ℕ) → option_map (λ packets. slice_get packets 0) (output_of c t.neighbours) ≡ (if live past c then Some (slice_get (out past c) 0) else None)
  front_known c =
      ap (option_map (λ packets. slice_get packets 0)) (output_there c)
      ∙ elim (live past c) as (λ b. option_map (λ packets. slice_get packets 0) (cond b (Some (out past c)) None) ≡ cond b (Some (slice_get (out past c) 0)) None) [ true ↦ refl | false ↦ refl ]

take_nil : {X : Type 0} (n : ℕ) → ◌≡◌ {A = List X} [] (take n [])
take_nil zero = refl
take_nil (suc n) = refl

-- the tables of no steps
pub made : {A : Type 0} (s : Config) (t : Tables A) → t.seen ≡ record { seen_entries = []; most = s.numbers.seen } → t.servents ≡ record { routes = []; most = s.numbers.servents }
    → t.neighbours ≡ record { rows = []; most = s.numbers.neighbours; room = s.numbers.out } → t.flights ≡ record { flights = map.empty; most = s.numbers.stage }
    → t.connected ≡ 0 → t.admitted ≡ 0 → t.stats ≡ no_stats → IsTabled s [] t
made s t seen servents neighbours flights connected admitted stats = record {
  legal = tt;
  short = omega arith;
  numbered = record {
    counted = connected;
    few = omega arith;
    below = All-nil (λ d. d < t.connected + 1);
    apart = tt;
    few_live = omega arith;
    fresh = λ c h. refl;
  };
  flights_are = record {
    counted = admitted;
    few = omega arith;
    below = All-nil (λ u. u < t.admitted);
    apart = tt;
    few_flying = omega arith;
    unrouted = λ u h. refl;
    unadmitted = λ u h. refl;
    each = λ u. ap (λ (f : Flying _). map.get f.flights u) flights ∙ map.get-empty nat_cmp u;
    many = ap (λ (f : Flying _). map.len f.flights) flights ∙ map.len-empty nat_cmp _;
    most = ap (λ (f : Flying _). f.most) flights;
  };
  seen_is = seen ∙ ap (λ (xs : List _). record { seen_entries = xs; most = s.numbers.seen }) (take_nil s.numbers.seen);
  servents_are = servents ∙ ap (λ (xs : List _). record { routes = xs; most = s.numbers.servents }) (take_nil s.numbers.servents);
  neighbours_are = neighbours;
  stats_are = stats;
}

-- what is found is there
pub is_there : {X Y : Type 0} (f : X → Y) (o : Option X) (there : Bool) (y : Y) → option_map f o ≡ (if there then Some y else None) → is_some o ≡ there
is_there f None true y h = cc
is_there f None false y h = refl
is_there f (Some x) true y h = refl
is_there f (Some x) false y h = cc
