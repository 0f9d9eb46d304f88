-- What one more step does to the flights.
use Rattle.std.proofs.Common.{◌≡◌, ℕ, ◌+◌, ◌-◌, ◌<◌, ◌≤◌, ◌==◌, ◌||◌, Bool, true, false, not, cond, if◌then◌else◌, List, [], ◌∷◌, ◌++◌, length, filter, Option, Some, None, is_some, refl, sym, ap, ◌∙◌, subst, arith, length-append, nat_eq}
use Rattle.std.specs.List.{All, list_any}
use Rattle.std.specs.Option.{option_to_list, option_map}
use Rattle.std.specs.Cmp.{nat_cmp_total}
use Rattle.std.specs.FinMap.{get, len, get-insert, get-remove, len-insert, len-remove}
use Rattle.std.proofs.lemmas.Grind.{common_steps}
use Rattle.std.proofs.lemmas.List.{append-nil}
use Rattle.std.proofs.lemmas.List.Elements.{All-head, All-tail, All-push, All-weaker}
use Rattle.std.proofs.lemmas.Map.Views.{any-filter_same, exact_unsigned_eq}
use Rattle.gn_tables.proofs.MapLemmas.{same_test}
use Rattle.gn_rules.specs.declared.config.Config.{Config}
use Rattle.gn_rules.specs.declared.event.Event.TheVariants.{Admit, Route}
use Rattle.gn_rules.specs.declared.receipt.Step.{Step}
use Rattle.gn_rules.specs.declared.reply.Reply.{Reply}
use Rattle.gn_rules.specs.declared.reply.Reply.TheVariants.{Admitted}
use Rattle.gn_rules.specs.Flight.{Admission, admission, admission_of, flying, in_flight, is_route, is_routed, tickets}
use Rattle.gn_rules.specs.History.{admitted_of, is_at}
use Rattle.gn_rules.proofs.StepLemmas.{flying-admitted, flying-kept, flying-routed}
use Rattle.gn_wire.specs.Packet.{Packet}
use Rattle.gn_tables.specs.declared.flights.Flight.{Flight}
use Rattle.gn_tables.specs.Flying.{Flying, with_flight, without_flight}
use Rattle.gn_table_router.specs.Tabled.{AreApart, AreFlying, flight_of}
use Rattle.gn_table_router.proofs.NumberLemmas.{apart_filter, apart_more}

other_number : (a b : ℕ) → b < a → (a == b) ≡ false
other_number a b h = grind (arith, common_steps)

flip : (a b : ℕ) → (a == b) ≡ (b == a)
flip a b = grind (arith, common_steps)

or_true : (b : Bool) → (b || true) ≡ true
or_true true = refl
or_true false = refl

any_append : {X : Type 0} (p : X → Bool) (xs ys : List X) → list_any p (xs ++ ys) ≡ (list_any p xs || list_any p ys)
any_append p [] ys = refl
any_append p (x ∷ xs) ys =
    let rest : list_any p (xs ++ ys) ≡ (list_any p xs || list_any p ys) = any_append p xs ys in
    elim (p x) as (λ b. (b || list_any p (xs ++ ys)) ≡ ((b || list_any p xs) || list_any p ys)) [ true ↦ refl | false ↦ rest ]

-- what was admitted has its ticket
pub ticket_listed : {A : Type 0} (past : List (Step A)) (t : ℕ) → is_some (admission past t) ≡ true → list_any (λ u. t == u) (tickets past) ≡ true
ticket_listed [] t h = absurd (cc)
ticket_listed (step ∷ earlier) t h =
    any_append (λ u. t == u) (tickets earlier) (option_to_list (admitted_of step.reply))
    ∙ elim (admitted_of step.reply) as (λ o. is_some (if is_at t o then admission_of step.event else admission earlier t) ≡ true → (list_any (λ u. t == u) (tickets earlier) || list_any (λ u. t == u) (option_to_list o)) ≡ true) [
      | None ↦ λ e. rw (ticket_listed earlier t e) refl
      | Some u ↦ λ e. elim (t == u) as (λ b. is_some (if b then admission_of step.event else admission earlier t) ≡ true → (list_any (λ u. t == u) (tickets earlier) || (b || false)) ≡ true) [
        | true ↦ λ e. or_true (list_any (λ u. t == u) (tickets earlier))
        | false ↦ λ e. rw (ticket_listed earlier t e) refl
      ] e
    ] h

-- a number that stands there is below what all are below
pub below_all : (u m : ℕ) (ns : List ℕ) → All (λ v. v < m) ns → list_any (λ v. u == v) ns ≡ true → u < m
below_all u m [] all there = absurd (cc)
below_all u m (n ∷ ns) all there =
    elim (u == n) as (λ b. (u == n) ≡ b → (b || list_any (λ v. u == v) ns) ≡ true → u < m) [
      | true ↦ λ e f. let same : u ≡ n = exact_unsigned_eq u n e in let less : n < m = All-head (λ v. v < m) n ns all in omega arith
      | false ↦ λ e f. below_all u m ns (All-tail (λ v. v < m) n ns all) f
    ] refl there

-- none of these is n, so none goes
none_goes : (n : ℕ) (ns : List ℕ) → All (λ m. (m == n) ≡ false) ns → filter (λ m. not (m == n)) ns ≡ ns
none_goes n [] h = refl
none_goes n (m ∷ ns) h =
    rw (All-head (λ m. (m == n) ≡ false) m ns h) (ap (λ xs. m ∷ xs) (none_goes n ns (All-tail (λ m. (m == n) ≡ false) m ns h)))

-- of numbers that are apart just one goes
one_goes : (t : ℕ) (ns : List ℕ) → AreApart ns → list_any (λ u. t == u) ns ≡ true → length (filter (λ u. not (u == t)) ns) + 1 ≡ length ns
one_goes t [] h there = absurd (cc)
one_goes t (n ∷ ns) h there =
    elim (t == n) as (λ b. (t == n) ≡ b → (b || list_any (λ u. t == u) ns) ≡ true → length (filter (λ u. not (u == t)) (n ∷ ns)) + 1 ≡ length (n ∷ ns)) [
      | true ↦ λ e f.
          let same : t ≡ n = exact_unsigned_eq t n e in
          let itself : (n == t) ≡ true = flip n t ∙ e in
          let others : All (λ m. (m == t) ≡ false) ns = subst (λ k. All (λ m. (m == k) ≡ false) ns) (sym same) h.0 in
          let rest : length (filter (λ u. not (u == t)) ns) ≡ length ns = ap length (none_goes t ns others) in
          rw itself (omega (arith, rest))
      | false ↦ λ e f.
          let other : (n == t) ≡ false = flip n t ∙ e in
          let rest : length (filter (λ u. not (u == t)) ns) + 1 ≡ length ns = one_goes t ns h.1 f in
          rw other (omega (arith, rest))
    ] refl there

some_map : (A : Type 0) (o : Option Admission) → is_some (option_map (flight_of {A = A}) o) ≡ is_some o
some_map A None = refl
some_map A (Some a) = refl

module _ {A : Type 0} (s : Config) (past : List (Step A)) (m : ℕ) (f : Flying (Flight A)) (are : AreFlying s past m f) where
  -- a step that admits nothing and routes nothing
  pub flights_kept : (step : Step A) → admitted_of step.reply ≡ None → ((u : ℕ) → is_route u step.event ≡ false) → AreFlying s (step ∷ past) m f
  flights_kept step none no_route = record {
    counted = rw (none, append-nil (tickets past)) are.counted;
    few = omega (arith, are.few);
    below = rw (none, append-nil (tickets past)) are.below;
    apart = rw (none, append-nil (tickets past)) are.apart;
    few_flying = rw (flying-kept past step none no_route) are.few_flying;
    unrouted = λ u h. rw (no_route u) (are.unrouted u h);
    unadmitted = λ u h. rw none (are.unadmitted u h);
    each = λ u. rw (no_route u, none) (are.each u);
    many = are.many ∙ ap length (sym (flying-kept past step none no_route));
    most = are.most;
  }

  -- a new ticket isn't there yet
  pub absent : get f.flights m ≡ None
  absent = are.each m ∙ rw (are.unrouted m (omega arith), are.unadmitted m (omega arith)) refl

  -- a new ticket
  module _ (actor c : ℕ) (d : Packet) where
    abbrev pub admitting : ℕ → Step A
    admitting u = record { actor = actor; event = Admit c d; reply = Admitted u }

    at : (u : ℕ) → cond (nat_eq u m) (Some (record { from = c; descriptor = d })) (get f.flights u) ≡ option_map flight_of (in_flight (admitting m ∷ past) u)
    at u = elim (u == m) as (λ b. (u == m) ≡ b → cond b (Some (record { from = c; descriptor = d })) (get f.flights u)
        ≡ option_map flight_of (cond (is_routed past u) None (cond b (Some (record { origin = c; packet = d })) (admission past u)))) [
          | true ↦ λ e. let same : u ≡ m = exact_unsigned_eq u m e in rw (are.unrouted u (omega arith)) refl
          | false ↦ λ e. are.each u
        ] refl

    pub flights_admitted : length (flying past) < s.numbers.stage → AreFlying s (admitting m ∷ past) (m + 1) (with_flight m (record { from = c; descriptor = d }) f)
    flights_admitted room =
        let all : flying (admitting m ∷ past) ≡ flying past ++ m ∷ [] = flying-admitted past (Admit c d) actor m (λ u. refl) (are.unrouted m (omega arith)) in
        let one_more : length (flying (admitting m ∷ past)) ≡ length (flying past) + 1 = ap length all ∙ length-append (flying past) (m ∷ []) in
        record {
          counted = omega (arith, are.counted, length-append (tickets past) (m ∷ []));
          few = omega (arith, are.few);
          below = All-push (λ u. u < m + 1) (tickets past) m (All-weaker (λ u. u < m) (λ u. u < m + 1) (λ u h. omega arith) (tickets past) are.below) (omega arith);
          apart = apart_more m (tickets past) are.below are.apart;
          few_flying = omega (arith, one_more, room);
          unrouted = λ u h. are.unrouted u (omega arith);
          unadmitted = λ u h. rw (other_number u m (omega arith)) (are.unadmitted u (omega arith));
          each = λ u. get-insert nat_cmp_total f.flights m _ u ∙ ap (λ b. cond b (Some (record { from = c; descriptor = d })) (get f.flights u)) (same_test u m) ∙ at u;
          many = len-insert nat_cmp_total f.flights m _ ∙ ap (λ o. cond (is_some o) (len f.flights) (len f.flights + 1)) absent ∙ omega (arith, are.many, one_more);
          most = are.most;
        }

  -- a ticket that is routed
  pub flights_routed : (actor u : ℕ) (reply : Reply A) → admitted_of reply ≡ None → is_some (in_flight past u) ≡ true
      → AreFlying s (record { actor = actor; event = Route u; reply = reply } ∷ past) m (without_flight u f)
  flights_routed actor u reply none there =
      let step : Step A = record { actor = actor; event = Route u; reply = reply } in
      let rest : flying (step ∷ past) ≡ filter (λ v. not (v == u)) (flying past) = flying-routed past reply actor u none in
      let one_less : length (flying (step ∷ past)) + 1 ≡ length (flying past) =
      ap (λ ns. length ns + 1) rest ∙ one_goes u (flying past) (apart_filter (λ v. not (is_routed past v)) (tickets past) are.apart) listed in
      record {
        counted = rw (none, append-nil (tickets past)) are.counted;
        few = omega (arith, are.few);
        below = rw (none, append-nil (tickets past)) are.below;
        apart = rw (none, append-nil (tickets past)) are.apart;
        few_flying = omega (arith, one_less, are.few_flying);
        unrouted = λ v h. rw (other_number v u (below_next v h)) (are.unrouted v h);
        unadmitted = λ v h. rw none (are.unadmitted v h);
        each = λ v. get-remove nat_cmp_total f.flights u v ∙ ap (λ b. cond b None (get f.flights v)) (same_test v u) ∙ left_at v;
        many = len-remove nat_cmp_total f.flights u ∙ ap (λ o. cond (is_some o) (len f.flights - 1) (len f.flights)) (are.each u) ∙ rw (some_map A (in_flight past u), there) (omega (arith, are.many, one_less));
        most = are.most;
      }
    where
      admitted_there : is_some (admission past u) ≡ true
      admitted_there = elim (is_routed past u) as (λ b. is_some (cond b None (admission past u)) ≡ true → is_some (admission past u) ≡ true) [ true ↦ λ e. absurd (cc) | false ↦ λ e. e ] there

      not_routed : is_routed past u ≡ false
      not_routed = elim (is_routed past u) as (λ b. is_some (cond b None (admission past u)) ≡ true → b ≡ false) [ true ↦ λ e. absurd (cc) | false ↦ λ e. refl ] there

      listed : list_any (λ v. u == v) (flying past) ≡ true
      listed =
          any-filter_same (λ v. u == v) (λ v. not (is_routed past v)) true (λ v h. ap (λ w. not (is_routed past w)) (sym (exact_unsigned_eq u v h)) ∙ ap not not_routed) (tickets past)
          ∙ ticket_listed past u admitted_there

      -- a ticket that is in flight is below the next one
      below_next : (v : ℕ) → m ≤ v → u < v
      below_next v h =
          let less : u < m = below_all u m (tickets past) are.below (ticket_listed past u admitted_there) in
          omega arith

      left_at : (v : ℕ) → cond (nat_eq v u) None (get f.flights v) ≡ option_map flight_of (in_flight (record { actor = actor; event = Route u; reply = reply } ∷ past) v)
      left_at v = elim (v == u) as (λ b. cond b None (get f.flights v) ≡ option_map flight_of (cond (b || is_routed past v) None (if is_at v (admitted_of reply) then None else admission past v))) [
        | true ↦ refl
        | false ↦ rw none (are.each v)
      ]
