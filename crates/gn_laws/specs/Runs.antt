-- Laws of whole histories in order: two counts say whether every admitted ticket is routed.
--
-- Here `steps` is a history in order, the oldest step first, and `reverse steps` the past that the definitions of the rules
-- are given. Counts are the same of both.
use Rattle.std.specs.Prelude.{◌≡◌, ◌<◌, ◌+◌, ◌↔◌, ◌==◌, ◌&&◌, ◌||◌, ℕ, Bool, true, not, if◌then◌else◌, List, [], ◌∷◌, length, reverse, is_some, slice_index_or}
use Rattle.std.specs.List.{count_by, list_any}
use Rattle.gn_rules.specs.declared.config.Config.{Config}
use Rattle.gn_rules.specs.declared.receipt.Step.{Step}
use Rattle.gn_rules.specs.declared.reply.Reply.TheVariants.{Admitted}
use Rattle.gn_rules.specs.Flight.{flying, is_routed}
use Rattle.gn_rules.specs.History.{admitted_of, is_at, ticket_of}
use Rattle.gn_rules.specs.Answer.{IsLegal}
use Rattle.gn_laws.specs.Tickets.{admitted, is_route_reply, routed}

-- a step is replied Admitted(t)
abbrev pub is_admitted : {A : Type 0} → List (Step A) → ℕ → Bool
is_admitted steps t = list_any (λ step. is_at t (admitted_of step.reply)) steps

-- every admitted ticket is routed
abbrev pub EachIsRouted : {A : Type 0} → List (Step A) → Type 0
EachIsRouted steps = (t : ℕ) → is_admitted steps t ≡ true → is_routed steps t ≡ true

-- in a legal history every admitted ticket is routed exactly where as many steps are replied Admitted as are a Route
abbrev pub CountsAgree : Type 0 → Type 0
CountsAgree A =
    (s : Config) (steps : List (Step A)) → IsLegal s (reverse steps)
    → (admitted steps ≡ routed steps) ↔ EachIsRouted steps

-- nothing is in flight exactly where every admitted ticket is routed, in any history
abbrev pub NoneFlies : Type 0 → Type 0
NoneFlies A = (steps : List (Step A)) → (length (flying (reverse steps)) ≡ 0) ↔ EachIsRouted steps

-- each admitted ticket is routed exactly once, and each route is answered
pub record RoutesAll {A : Type 0} (steps : List (Step A)) : Type 0 where
  -- for each step replied Admitted(t) there is exactly one step Route(t)
  pub once : (k t : ℕ) (d : Step A) → k < length steps → (slice_index_or steps k d).reply ≡ Admitted t
      → count_by (λ step. is_at t (ticket_of step.event)) steps ≡ 1
  -- each step Route is replied Routed or Dropped
  pub replied : (k : ℕ) (d : Step A) → k < length steps → is_some (ticket_of (slice_index_or steps k d).event) ≡ true
      → is_route_reply (slice_index_or steps k d).reply ≡ true

-- in a legal history with as many steps replied Admitted as are a Route, each admitted ticket is routed exactly once
abbrev pub EqualCountsRouteAll : Type 0 → Type 0
EqualCountsRouteAll A =
    (s : Config) (steps : List (Step A)) → IsLegal s (reverse steps) → admitted steps ≡ routed steps
    → RoutesAll steps

-- at each step that `asked` names, as many of the steps before it are replied Admitted as are a Route: `admissions` and
-- `routes` count those of the steps before
abbrev pub settled_from : {A : Type 0} → (Step A → Bool) → ℕ → ℕ → List (Step A) → Bool
settled_from asked admissions routes [] = true
settled_from asked admissions routes (step ∷ steps) =
    (not (asked step) || (admissions == routes))
    && settled_from asked
    (admissions + (if is_some (admitted_of step.reply) then 1 else 0))
    (routes + (if is_some (ticket_of step.event) then 1 else 0))
    steps
