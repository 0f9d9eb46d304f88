-- Which steps route a ticket, and how far a history has to be looked at to find the routes of all that was admitted.
use Rattle.std.specs.Prelude.{◌≡◌, ◌≤◌, ◌<◌, ◌+◌, ℕ, true, false, List, length, slice_index_or, take}
use Rattle.gn_rules.specs.declared.receipt.Step.{Step}
use Rattle.gn_rules.specs.Flight.{is_route, is_routed}
use Rattle.gn_laws.specs.Runs.{is_admitted}
use Rattle.gn_report.specs.declared.routes.Reach.{Reach}

-- the step at a place routes the ticket t
pub record IsRouteAt {A : Type 0} (t : ℕ) (steps : List (Step A)) (place : ℕ) : Type 0 where
  pub within : place < length steps
  pub is : (d : Step A) → is_route t (slice_index_or steps place d).event ≡ true

-- there is no step at a place, or one that doesn't route t
abbrev pub RoutesNotAt : {A : Type 0} → ℕ → List (Step A) → ℕ → Type 0
RoutesNotAt {A} t steps place = (d : Step A) → place < length steps → is_route t (slice_index_or steps place d).event ≡ false

-- no step less than so many places apart from this one routes t
abbrev pub RoutesNotNear : {A : Type 0} → ℕ → List (Step A) → ℕ → ℕ → Type 0
RoutesNotNear t steps near apart = (place : ℕ) → place < near + apart → near < place + apart → RoutesNotAt t steps place

-- what was admitted in the first i steps is routed in the first reach.until ones; reach.near is a place of the history, unless that is empty
pub record IsReach {A : Type 0} (steps : List (Step A)) (i : ℕ) (reach : Reach) : Type 0 where
  pub near : 0 < length steps → reach.near < length steps
  pub until : reach.until ≤ length steps
  pub routed : (t : ℕ) → is_admitted (take i steps) t ≡ true → is_routed (take reach.until steps) t ≡ true
