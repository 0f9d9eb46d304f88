-- The laws of tickets, of histories in order.
use Rattle.std.proofs.Common.{◌≡◌, ◌<◌, ◌+◌, ◌==◌, ◌↔◌, ℕ, zero, suc, Bool, true, false, ◌||◌, not, List, [], ◌∷◌, ◌++◌, length, get_or, take, reverse, is_some, refl, sym, ap, ◌∙◌, arith, append_assoc}
use Rattle.std.specs.List.{All, AllByRecursion, count_by, list_any}
use Rattle.std.specs.List.Sorted.{IsPermutation}
use Rattle.std.proofs.lemmas.Bool.{and_from, and_parts, eq-eqb, eqb-true}
use Rattle.std.proofs.lemmas.Grind.{common_steps}
use Rattle.std.proofs.lemmas.List.{append-nil, reverse-reverse}
use Rattle.std.proofs.lemmas.List.Elements.{All-from_recursion, All-get_or}
use Rattle.std.proofs.lemmas.List.Folds.{list_any_at}
use Rattle.std.proofs.lemmas.List.Sorted.{All-permutation, list_any-IsPermutation, IsPermutation-reverse}
use Rattle.std.proofs.lemmas.List.Sums.{sum_by_push}
use Rattle.gn_rules.specs.declared.config.Config.{Config}
use Rattle.gn_rules.specs.declared.event.Event.{Event}
use Rattle.gn_rules.specs.declared.event.Event.TheVariants.{Route}
use Rattle.gn_rules.specs.declared.receipt.Step.{Step}
use Rattle.gn_rules.specs.Flight.{flying, is_route}
use Rattle.gn_rules.specs.History.{admitted_of, is_at, ticket_of}
use Rattle.gn_rules.specs.Answer.{IsLegal}
use Rattle.gn_laws.specs.Tickets.{admitted, is_route_reply, routed}
use Rattle.gn_laws.specs.Runs.{is_admitted, EachIsRouted, RoutesAll, settled_from, CountsAgree, EqualCountsRouteAll, NoneFlies}
use Rattle.gn_laws.proofs.CountLemmas.{count-cons, count_some, count-reverse, tally}
use Rattle.gn_laws.proofs.TicketLemmas.{admitted_once, each_routed, flights_balance, none_flies as none_left, route_replied, routed_once}

-- a test of some step doesn't go by the order
any-reverse : {X : Type 0} (p : X → Bool) (xs : List X) → list_any p xs ≡ list_any p (reverse xs)
any-reverse p xs = list_any-IsPermutation p xs (reverse xs) (IsPermutation-reverse xs)

each-reverse : {A : Type 0} (steps : List (Step A)) → EachIsRouted steps ↔ EachIsRouted (reverse steps)
each-reverse {A} steps =
    let admitting : ℕ → Step A → Bool = λ t x. is_at t (admitted_of x.reply) in
    let routing : ℕ → Step A → Bool = λ t x. is_route t x.event in (
      (λ each t was. sym (any-reverse (routing t) steps) ∙ each t (any-reverse (admitting t) steps ∙ was)),
      (λ each t was. any-reverse (routing t) steps ∙ each t (sym (any-reverse (admitting t) steps) ∙ was)),
    )

-- the balance, in order
balance : {A : Type 0} (s : Config) (steps : List (Step A)) → IsLegal s (reverse steps) → admitted steps ≡ routed steps + length (flying (reverse steps))
balance {A} s steps legal =
    let past = flights_balance A s (reverse steps) legal in
    omega (arith, past, count-reverse (λ (x : Step A). is_some (admitted_of x.reply)) steps, count-reverse (λ (x : Step A). is_some (ticket_of x.event)) steps)

pub counts_agree : (A : Type 0) → CountsAgree A
counts_agree A s steps legal =
    let even = balance s steps legal in
    let turn = each-reverse steps in
    ((λ same. turn.1 (each_routed (reverse steps) (omega (arith, even, same)))), (λ each. omega (arith, even, none_left (reverse steps) (turn.0 each))))

-- the same, stated by a test
pub test_agrees : (A : Type 0) (s : Config) (steps : List (Step A)) → IsLegal s (reverse steps) → ((admitted steps == routed steps) ≡ true) ↔ EachIsRouted steps
test_agrees A s steps legal =
    let verdict = counts_agree A s steps legal in
    ((λ e. verdict.0 (eqb-true (admitted steps) (routed steps) e)), (λ each. eq-eqb (admitted steps) (routed steps) (verdict.1 each)))

-- each step of a legal history, where it is a Route, is replied Routed or Dropped
abbrev IsReplied : {A : Type 0} → Step A → Type 0
IsReplied step = is_some (ticket_of step.event) ≡ true → is_route_reply step.reply ≡ true

all_replied : {A : Type 0} (s : Config) (past : List (Step A)) → IsLegal s past → AllByRecursion IsReplied past
all_replied s [] legal = tt
all_replied s (step ∷ past) legal = ((λ h. route_replied s past step.event step.reply legal.0 h), all_replied s past legal.1)

-- an event routes t where t is the ticket that it routes
routes_same : {A : Type 0} (t : ℕ) (event : Event A) → is_at t (ticket_of event) ≡ is_route t event
routes_same t (Route u) = refl
routes_same t event = refl

routes_counted : {A : Type 0} (steps : List (Step A)) (t : ℕ) → count_by (λ step. is_at t (ticket_of step.event)) steps ≡ count_by (λ step. is_route t step.event) steps
routes_counted [] t = refl
routes_counted {A} (step ∷ steps) t =
    omega (arith, routes_counted steps t, ap tally (routes_same t step.event), count-cons (λ (x : Step A). is_at t (ticket_of x.event)) step steps, count-cons (λ (x : Step A). is_route t x.event) step steps)

pub equal_counts_route_all : (A : Type 0) → EqualCountsRouteAll A
equal_counts_route_all A s steps legal same =
    let past : List (Step A) = reverse steps in
    let replied : All IsReplied steps =
    All-permutation IsReplied past steps (IsPermutation-back steps) (All-from_recursion IsReplied past (all_replied s past legal)) in
    record {
      once = λ k t d below is.
          let admitting : Step A → Bool = λ x. is_at t (admitted_of x.reply) in
          let routing : Step A → Bool = λ x. is_route t x.event in
          let here : is_at t (admitted_of (get_or steps k d).reply) ≡ true = ap (λ r. is_at t (admitted_of r)) is ∙ itself t in
          let was : is_admitted steps t ≡ true = list_any_at admitting steps k d below here in
          let some = count_some routing steps ((counts_agree A s steps legal).0 same t was) in
          let most = routed_once A s past t legal in
          let once = admitted_once A s past t legal in
          omega (arith, some, most, once, count-reverse routing steps, routes_counted steps t);
      replied = λ k d below h. All-get_or IsReplied steps k d below replied h;
    }
  where
    itself : (t : ℕ) → (t == t) ≡ true
    itself t = grind (arith, common_steps)

    IsPermutation-back : {X : Type 0} (xs : List X) → IsPermutation (reverse xs) xs
    IsPermutation-back xs = rw reverse-reverse at (IsPermutation-reverse (reverse xs))

-- one pass with two counts, from the middle of a history: `before` are the steps that it has come over
settles : {A : Type 0} (asked : Step A → Bool) (before steps : List (Step A))
    → (settled_from asked (admitted before) (routed before) steps ≡ true)
    ↔ ((k : ℕ) (d : Step A) → k < length steps → asked (get_or steps k d) ≡ true → admitted (before ++ take k steps) ≡ routed (before ++ take k steps))
settles asked before [] = ((λ e k d below. absurd (omega (arith, below))), (λ each. refl))
settles {A} asked before (step ∷ steps) =
    let next : List (Step A) = before ++ step ∷ [] in
    let more : admitted next ≡ admitted before + tally (is_some (admitted_of step.reply)) = sum_by_push (λ (x : Step A). tally (is_some (admitted_of x.reply))) before step in
    let also : routed next ≡ routed before + tally (is_some (ticket_of step.event)) = sum_by_push (λ (x : Step A). tally (is_some (ticket_of x.event))) before step in
    let rest = settles asked next steps in
    let here : Bool = not (asked step) || (admitted before == routed before) in
    let tail : Bool = settled_from asked (admitted before + tally (is_some (admitted_of step.reply))) (routed before + tally (is_some (ticket_of step.event))) steps in
    let same : settled_from asked (admitted next) (routed next) steps ≡ tail = ap (λ n. settled_from asked n (routed next) steps) more ∙ ap (λ n. settled_from asked (admitted before + tally (is_some (admitted_of step.reply))) n steps) also in
    let none : before ++ take 0 (step ∷ steps) ≡ before = append-nil before in
    let onward : (k : ℕ) → next ++ take k steps ≡ before ++ (step ∷ take k steps) = λ k. append_assoc before (step ∷ []) (take k steps) in (
      (λ e.
          let parts = and_parts here tail e in
          let later = rest.0 (same ∙ parts.1) in
          λ k d below is. at k d below is parts.0 later),
      (λ each.
          and_from here tail
          (first (asked step) (λ is. eq-eqb (admitted before) (routed before) (rw none at (each 0 step (omega arith) is))))
          (sym same ∙ rest.1 (λ k d below is. rw (onward k) (each (suc k) d (omega (arith, below)) is)))),
    )
  where
    first : (b : Bool) → (b ≡ true → (admitted before == routed before) ≡ true) → (not b || (admitted before == routed before)) ≡ true
    first true h = h refl
    first false h = refl

    at : (k : ℕ) (d : Step A) → k < length (step ∷ steps) → asked (get_or (step ∷ steps) k d) ≡ true → (not (asked step) || (admitted before == routed before)) ≡ true
        → ((k : ℕ) (d : Step A) → k < length steps → asked (get_or steps k d) ≡ true → admitted ((before ++ step ∷ []) ++ take k steps) ≡ routed ((before ++ step ∷ []) ++ take k steps))
        → admitted (before ++ take k (step ∷ steps)) ≡ routed (before ++ take k (step ∷ steps))
    at zero d below is now later =
        let equal : (admitted before == routed before) ≡ true = ap (λ b. not b || (admitted before == routed before)) (sym is) ∙ now in
        rw (append-nil before) (eqb-true (admitted before) (routed before) equal)
    at (suc k) d below is now later = rw (append_assoc before (step ∷ []) (take k steps)) at (later k d (omega (arith, below)) is)

pub none_flies : (A : Type 0) → NoneFlies A
none_flies A steps =
    let turn = each-reverse steps in
    ((λ none. turn.1 (each_routed (reverse steps) none)), (λ each. none_left (reverse steps) (turn.0 each)))

-- where nothing is in flight each admitted ticket is routed exactly once
pub settled_routes_all : (A : Type 0) (s : Config) (steps : List (Step A)) → IsLegal s (reverse steps) → length (flying (reverse steps)) ≡ 0 → RoutesAll steps
settled_routes_all A s steps legal none = equal_counts_route_all A s steps legal (omega (arith, none, balance s steps legal))
