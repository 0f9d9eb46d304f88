-- Laws of tickets: each is given once and routed at most once.
--
-- In each law `past` is a history with its newest step first, as in the definitions of the rules.
use Rattle.std.specs.Prelude.{◌≡◌, ◌≤◌, ◌<◌, ◌+◌, ℕ, Bool, true, false, List, ◌∷◌, length, is_some, slice_index_or, count_by}
use Rattle.gn_rules.specs.declared.config.Config.{Config}
use Rattle.gn_rules.specs.declared.receipt.Step.{Step}
use Rattle.gn_rules.specs.declared.reply.Reply.{Reply}
use Rattle.gn_rules.specs.declared.reply.Reply.TheVariants.{Dropped, Routed}
use Rattle.gn_rules.specs.Flight.{flying, tickets}
use Rattle.gn_rules.specs.History.{admitted_of, is_at, ticket_of}
use Rattle.gn_rules.specs.Answer.{IsLegal}

-- how many steps are replied Admitted(t)
abbrev pub admissions : {A : Type 0} → List (Step A) → ℕ → ℕ
admissions past t = count_by (λ step. is_at t (admitted_of step.reply)) past

-- how many steps are Route(t)
abbrev pub routes : {A : Type 0} → List (Step A) → ℕ → ℕ
routes past t = count_by (λ step. is_at t (ticket_of step.event)) past

-- how many steps are replied Admitted, whatever the ticket
abbrev pub admitted : {A : Type 0} → List (Step A) → ℕ
admitted past = count_by (λ step. is_some (admitted_of step.reply)) past

-- how many steps are a Route, whatever the ticket
abbrev pub routed : {A : Type 0} → List (Step A) → ℕ
routed past = count_by (λ step. is_some (ticket_of step.event)) past

-- in a legal history the tickets, from the first on, are 0, 1, 2 and so on
abbrev pub TicketsCount : Type 0 → Type 0
TicketsCount A =
    (s : Config) (past : List (Step A)) (k : ℕ) → IsLegal s past → k < length (tickets past)
    → slice_index_or (tickets past) k 0 ≡ k

-- in a legal history at most one step is replied Admitted(t)
abbrev pub AdmittedOnce : Type 0 → Type 0
AdmittedOnce A = (s : Config) (past : List (Step A)) (t : ℕ) → IsLegal s past → admissions past t ≤ 1

-- in a legal history a ticket has no more steps Route than it has admissions: none where it wasn't admitted, else at most
-- one
abbrev pub RoutedOnce : Type 0 → Type 0
RoutedOnce A = (s : Config) (past : List (Step A)) (t : ℕ) → IsLegal s past → routes past t ≤ admissions past t

-- a reply is Routed or Dropped
abbrev pub is_route_reply : {A : Type 0} → Reply A → Bool
is_route_reply (Routed sends local) = true
is_route_reply (Dropped reason) = true
is_route_reply reply = false

-- in a legal history the newest step, where it is a Route, is replied Routed or Dropped
abbrev pub RoutesAreReplied : Type 0 → Type 0
RoutesAreReplied A =
    (s : Config) (past : List (Step A)) (step : Step A) → IsLegal s (step ∷ past)
    → is_some (ticket_of step.event) ≡ true → is_route_reply step.reply ≡ true

-- in a legal history as many steps are replied Admitted as are a Route, and one more for each ticket in flight
abbrev pub FlightsBalance : Type 0 → Type 0
FlightsBalance A =
    (s : Config) (past : List (Step A)) → IsLegal s past → admitted past ≡ routed past + length (flying past)
