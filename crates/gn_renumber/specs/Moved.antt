-- Steps whose actors have other numbers.
use Rattle.std.specs.Prelude.{◌≡◌, ℕ, List, length, map, reverse, take}
use Rattle.std.specs.List.{list_any}
use Rattle.gn_rules.specs.declared.config.Config.{Config}
use Rattle.gn_rules.specs.declared.receipt.Step.{Step}
use Rattle.gn_rules.specs.Answer.{IsLegal}
use Rattle.gn_rules.specs.Flight.{flying}
use Rattle.gn_rules.specs.History.{is_close}
use Rattle.gn_rules.specs.Statistics.{stats_of}

-- the same steps, each actor of which has the number that is made of its own
abbrev pub moved : {A : Type 0} → (ℕ → ℕ) → List (Step A) → List (Step A)
moved {A} number steps = map (λ (step : Step A). record step { actor = number step.actor }) steps

-- a legal history stays so where its actors have other numbers
abbrev pub MovedIsLegal : Type 0 → Type 0
MovedIsLegal A = (s : Config) (number : ℕ → ℕ) (steps : List (Step A)) → IsLegal s (reverse steps) → IsLegal s (reverse (moved number steps))

-- two histories are as long, and after as many steps of both the same tickets are in flight; the same connections were closed, and the
-- statistics are the same
pub record AreAlike {A : Type 0} (steps others : List (Step A)) : Type 0 where
  pub many : length others ≡ length steps
  pub flying_in : (k : ℕ) → flying (reverse (take k others)) ≡ flying (reverse (take k steps))
  pub closed : (c : ℕ) → list_any (λ step. is_close c step.event) others ≡ list_any (λ step. is_close c step.event) steps
  pub stats : stats_of (reverse others) ≡ stats_of (reverse steps)

-- what is said of events and replies alone stays so where the actors have other numbers
abbrev pub MovedIsAlike : Type 0 → Type 0
MovedIsAlike A = (number : ℕ → ℕ) (steps : List (Step A)) → AreAlike steps (moved number steps)
