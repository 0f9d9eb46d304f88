-- Each ticket is admitted once and routed at most once, and as many are in flight as were admitted and not routed.
use Rattle.std.proofs.Common.{◌≡◌, ◌≤◌, ◌+◌, ◌==◌, ℕ, Bool, true, false, ◌&&◌, not, cond, nat_lt, List, [], ◌∷◌, length, filter, is_some, Option, Some, None, Ok, ◌⊎◌, inl, inr, refl, sym, ap, ◌∙◌, arith, length-append}
use Rattle.std.specs.List.{All, count_by, list_any}
use Rattle.std.specs.Option.{option_to_list}
use Rattle.std.proofs.lemmas.Grind.{common_steps}
use Rattle.std.proofs.lemmas.List.Elements.{All-head, filter_agree, filter_passes}
use Rattle.std.proofs.lemmas.List.Filters.{length-filter_both}
use Rattle.std.proofs.lemmas.List.Sums.{count_by-le-length, length-filter, sum_by-append}
use Rattle.std.proofs.lemmas.Map.Views.{exact_unsigned_eq}
use Rattle.gn_rules.specs.declared.config.Config.{Config}
use Rattle.gn_rules.specs.declared.event.Event.{Event}
use Rattle.gn_rules.specs.declared.event.Event.TheVariants.{Route}
use Rattle.gn_rules.specs.declared.receipt.Step.{Step}
use Rattle.gn_rules.specs.declared.reply.Reply.{Reply}
use Rattle.gn_rules.specs.Answer.{answer, decision_reply, IsLegal}
use Rattle.gn_rules.specs.Decision.{Decision, Drop, decide}
use Rattle.gn_rules.specs.Flight.{Admission, admission, admission_of, flying, is_route, is_routed, tickets}
use Rattle.gn_rules.specs.History.{admitted_of, is_at, ticket_of}
use Rattle.gn_rules.proofs.AnswerLemmas.{answered}
use Rattle.gn_rules.proofs.FlightLemmas.{flying_more, gives_next, moves_tickets, tickets_counted}
use Rattle.gn_rules.proofs.StepLemmas.{filter_both}
use Rattle.gn_laws.specs.Tickets.{admissions, routes, is_route_reply, AdmittedOnce, FlightsBalance, RoutedOnce, RoutesAreReplied, TicketsCount}
use Rattle.gn_laws.specs.Runs.{EachIsRouted}
use Rattle.gn_laws.proofs.CountLemmas.{tally, count-cons, count_none, count_some, any_from_count, same_in_both}

pub tickets_count : (A : Type 0) → TicketsCount A
tickets_count A s past k legal within = tickets_counted s past legal k within ∙ omega arith

-- a ticket was given where it is below the next one
given_more : (o : Option ℕ) (t n a : ℕ) → (o ≡ None) ⊎ (o ≡ Some n) → a ≡ tally (nat_lt t n) → tally (is_at t o) + a ≡ tally (nat_lt t (n + length (option_to_list o)))
given_more None t n a which e = grind (arith, common_steps)
given_more (Some m) t n a (inl none) e = absurd (cc)
given_more (Some m) t n a (inr next) e = let is : m ≡ n = cc in grind (arith, common_steps)

pub admissions_are : {A : Type 0} (s : Config) (past : List (Step A)) (t : ℕ) → IsLegal s past → admissions past t ≡ tally (nat_lt t (length (tickets past)))
admissions_are s [] t legal = grind (arith, common_steps)
admissions_are {A} s (step ∷ past) t legal =
    let more = count-cons (λ (x : Step A). is_at t (admitted_of x.reply)) step past in
    let longer = length-append (tickets past) (option_to_list (admitted_of step.reply)) in
    more
    ∙ given_more (admitted_of step.reply) t (length (tickets past)) (admissions past t) (gives_next s past step.event step.reply legal.0) (admissions_are s past t legal.1)
    ∙ ap (λ n. tally (nat_lt t n)) (sym longer)

pub admitted_once : (A : Type 0) → AdmittedOnce A
admitted_once A s past t legal = let h = admissions_are s past t legal in grind (arith, common_steps, h)

-- what is found as admitted was admitted
some_admission : {A : Type 0} (past : List (Step A)) (t : ℕ) (a : Admission) → admission past t ≡ Some a → 1 ≤ admissions past t
some_admission [] t a e = cc
some_admission {A} (step ∷ past) t a e =
    let more = count-cons (λ (x : Step A). is_at t (admitted_of x.reply)) step past in
    elim (is_at t (admitted_of step.reply)) as (λ b. is_at t (admitted_of step.reply) ≡ b → cond b (admission_of step.event) (admission past t) ≡ Some a → 1 ≤ admissions (step ∷ past) t) [
      | true ↦ λ h e. omega (arith, more, ap tally h)
      | false ↦ λ h e. omega (arith, more, some_admission past t a e)
    ] refl e

-- one step more routes t once at most, and not where t was routed or wasn't admitted
routed_more : {A : Type 0} (s : Config) (past : List (Step A)) (step : Step A) (t : ℕ) → answer s past step.event ≡ Ok step.reply → routes past t ≤ admissions past t
    → tally (is_route t step.event) + routes past t ≤ admissions past t
routed_more {A} s past step t e before =
    elim (moves_tickets s past step.event step.reply e) as (λ x. tally (is_route t step.event) + routes past t ≤ admissions past t) [
      | inl leaves ↦ omega (arith, before, none leaves.routes)
      | inr (inl next) ↦ omega (arith, before, none next.routes)
      | inr (inr one) ↦ elim (is_route t step.event) as (λ b. is_route t step.event ≡ b → tally b + routes past t ≤ admissions past t) [
        | false ↦ λ h. omega (arith, before)
        | true ↦ λ h.
            let is : t ≡ one.ticket = exact_unsigned_eq t one.ticket (ap (is_at t) (sym one.routes) ∙ h) in
            let unrouted : list_any (λ x. is_route t x.event) past ≡ false = ap (is_routed past) is ∙ one.unrouted in
            omega (arith, count_none (λ (x : Step A). is_route t x.event) past unrouted, some_admission past t one.found (ap (admission past) is ∙ one.was_admitted))
      ] refl
    ]
  where
    none : ticket_of step.event ≡ None → tally (is_route t step.event) ≡ 0
    none h = ap (λ o. tally (is_at t o)) h

pub routed_once : (A : Type 0) → RoutedOnce A
routed_once A s [] t legal = omega arith
routed_once A s (step ∷ past) t legal =
    let more = count-cons (λ (x : Step A). is_route t x.event) step past in
    let also = count-cons (λ (x : Step A). is_at t (admitted_of x.reply)) step past in
    omega (arith, more, also, routed_more s past step t legal.0 (routed_once A s past t legal.1))

decision_replies : {A : Type 0} (s : Config) (past : List (Step A)) (a : Admission) (decision : Decision)
    → is_route_reply (decision_reply s past a decision) ≡ true
decision_replies s past a (Drop reason) = refl
decision_replies s past a decision = refl

pub route_replied : {A : Type 0} (s : Config) (past : List (Step A)) (event : Event A) (reply : Reply A) → answer s past event ≡ Ok reply → is_some (ticket_of event) ≡ true → is_route_reply reply ≡ true
route_replied s past (Route t) reply e h =
    let routed = answered s past (Route t) reply e in
    rw routed.reply_is (decision_replies s past routed.admitted (decide s past routed.admitted))
route_replied s past event reply e h = absurd (cc)

pub routes_are_replied : (A : Type 0) → RoutesAreReplied A
routes_are_replied A s past step legal h = route_replied s past step.event step.reply legal.0 h

-- a ticket stands as often among all tickets as it was admitted
listed_as_admitted : {A : Type 0} (past : List (Step A)) (t : ℕ) → count_by (λ u. u == t) (tickets past) ≡ admissions past t
listed_as_admitted [] t = refl
listed_as_admitted {A} (step ∷ past) t =
    let more = count-cons (λ (x : Step A). is_at t (admitted_of x.reply)) step past in
    let both = sum_by-append (λ u. cond (u == t) 1 0) (tickets past) (option_to_list (admitted_of step.reply)) in
    omega (arith, more, both, listed_as_admitted past t, one (admitted_of step.reply))
  where
    one : (o : Option ℕ) → count_by (λ u. u == t) (option_to_list o) ≡ tally (is_at t o)
    one None = refl
    one (Some u) = omega arith ∙ ap tally (same_in_both u t)

-- a ticket that isn't routed stands as often among those in flight as it was admitted
flies_as_admitted : {A : Type 0} (past : List (Step A)) (t : ℕ) → is_routed past t ≡ false → count_by (λ u. u == t) (flying past) ≡ admissions past t
flies_as_admitted past t unrouted =
    sym (length-filter (λ u. u == t) (flying past))
    ∙ ap length (sym (filter_both (λ u. u == t) (λ u. not (is_routed past u)) (tickets past)) ∙ filter_agree (λ u. (u == t) && not (is_routed past u)) (λ u. u == t) same (tickets past))
    ∙ length-filter (λ u. u == t) (tickets past)
    ∙ listed_as_admitted past t
  where
    same : (u : ℕ) → ((u == t) && not (is_routed past u)) ≡ (u == t)
    same u =
        elim (u == t) as (λ b. (u == t) ≡ b → (b && not (is_routed past u)) ≡ b) [
          | true ↦ λ e. ap (λ v. not (is_routed past v)) (exact_unsigned_eq u t e) ∙ ap not unrouted
          | false ↦ λ e. refl
        ] refl

-- how many stay in flight, with the one that a step gives
flying_length : {A : Type 0} (s : Config) (past : List (Step A)) (step : Step A) → IsLegal s (step ∷ past)
    → length (flying (step ∷ past)) ≡ length (filter (λ t. not (is_route t step.event)) (flying past)) + tally (is_some (admitted_of step.reply))
flying_length s past step legal =
    ap length (flying_more s past step legal.1 legal.0)
    ∙ length-append (filter (λ t. not (is_route t step.event)) (flying past)) (option_to_list (admitted_of step.reply))
    ∙ ap (λ n. length (filter (λ t. not (is_route t step.event)) (flying past)) + n) (given (admitted_of step.reply))
  where
    given : (o : Option ℕ) → length (option_to_list o) ≡ tally (is_some o)
    given None = refl
    given (Some t) = refl

-- of those in flight all stay but the one that a step routes
flying_stay : {A : Type 0} (s : Config) (past : List (Step A)) (step : Step A) → IsLegal s (step ∷ past)
    → length (filter (λ t. not (is_route t step.event)) (flying past)) + tally (is_some (ticket_of step.event)) ≡ length (flying past)
flying_stay {A} s past step legal =
    elim (moves_tickets s past step.event step.reply legal.0) as (λ x. length (filter (λ t. not (is_route t step.event)) (flying past)) + tally (is_some (ticket_of step.event)) ≡ length (flying past)) [
      | inl leaves ↦ all leaves.routes
      | inr (inl next) ↦ all next.routes
      | inr (inr one) ↦
          let both = length-filter_both (λ t. t == one.ticket) (λ t. not (is_route t step.event)) (λ t. ap (λ o. not (is_at t o)) one.routes) (flying past) in
          let here = length-filter (λ t. t == one.ticket) (flying past) in
          let flies = flies_as_admitted past one.ticket one.unrouted in
          let most = admitted_once A s past one.ticket legal.1 in
          let least = some_admission past one.ticket one.found one.was_admitted in
          omega (arith, both, here, flies, most, least, ap (λ o. tally (is_some o)) one.routes)
    ]
  where
    keeps_all : (p : ℕ → Bool) → ((t : ℕ) → p t ≡ true) → (ts : List ℕ) → filter p ts ≡ ts
    keeps_all p h [] = refl
    keeps_all p h (t ∷ ts) = rw (h t) (ap (λ us. t ∷ us) (keeps_all p h ts))

    all : ticket_of step.event ≡ None → length (filter (λ t. not (is_route t step.event)) (flying past)) + tally (is_some (ticket_of step.event)) ≡ length (flying past)
    all none =
        let same = keeps_all (λ t. not (is_route t step.event)) (λ t. ap (λ o. not (is_at t o)) none) (flying past) in
        omega (arith, ap length same, ap (λ o. tally (is_some o)) none)

pub flights_balance : (A : Type 0) → FlightsBalance A
flights_balance A s [] legal = refl
flights_balance A s (step ∷ past) legal =
    let before = flights_balance A s past legal.1 in
    let more = count-cons (λ (x : Step A). is_some (admitted_of x.reply)) step past in
    let also = count-cons (λ (x : Step A). is_some (ticket_of x.event)) step past in
    omega (arith, before, more, also, flying_length s past step legal, flying_stay s past step legal)

-- where nothing is in flight each admitted ticket is routed
pub each_routed : {A : Type 0} (past : List (Step A)) → length (flying past) ≡ 0 → EachIsRouted past
each_routed {A} past none t was =
    elim (is_routed past t) as (λ b. is_routed past t ≡ b → b ≡ true) [
      | true ↦ λ e. refl
      | false ↦ λ e.
          let some = count_some (λ (x : Step A). is_at t (admitted_of x.reply)) past was in
          absurd (omega (arith, none, some, flies_as_admitted past t e, count_by-le-length (λ u. u == t) (flying past)))
    ] refl

-- where each admitted ticket is routed, nothing is in flight
pub none_flies : {A : Type 0} (past : List (Step A)) → EachIsRouted past → length (flying past) ≡ 0
none_flies {A} past each = look (flying past) refl
  where
    itself : (t : ℕ) (ts : List ℕ) → 1 ≤ count_by (λ u. u == t) (t ∷ ts)
    itself t ts = let more = count-cons (λ u. u == t) t ts in grind (arith, common_steps, more)

    other : (b : Bool) → not b ≡ true → b ≡ false
    other true e = cc
    other false e = refl

    look : (ts : List ℕ) → flying past ≡ ts → length ts ≡ 0
    look [] e = refl
    look (t ∷ ts) e =
        let passes : All (λ u. not (is_routed past u) ≡ true) (t ∷ ts) = rw e at (filter_passes (λ u. not (is_routed past u)) (tickets past)) in
        let unrouted : is_routed past t ≡ false = other (is_routed past t) (All-head (λ u. not (is_routed past u) ≡ true) t ts passes) in
        let flies = flies_as_admitted past t unrouted in
        let some : 1 ≤ admissions past t = omega (arith, flies, ap (count_by (λ u. u == t)) e, itself t ts) in
        let routed_too : is_routed past t ≡ true = each t (any_from_count (λ (x : Step A). is_at t (admitted_of x.reply)) past some) in
        absurd (cc)
