-- What the test of a history says.
use Rattle.std.specs.Prelude.{◌+◌, ◌<◌, ℕ, List, length, reverse, take}
use Rattle.gn_rules.specs.declared.config.Config.{Config}
use Rattle.gn_rules.specs.declared.receipt.Step.{Step}
use Rattle.gn_rules.specs.declared.legality.Legality.{Legality}
use Rattle.gn_rules.specs.declared.legality.Legality.TheVariants.{Legal, WrongAt}
use Rattle.gn_rules.specs.Answer.{IsLegal}

-- the step at the index is the first wrong one: the steps before it are a legal history, and with it they aren't
pub record IsFirstWrong {A : Type 0} (s : Config) (steps : List (Step A)) (i : ℕ) : Type 0 where
  pub within : i < length steps
  pub before : IsLegal s (reverse (take i steps))
  pub wrong : IsLegal s (reverse (take (i + 1) steps)) → ⊥

-- what is stated of a history is true: Legal of a legal one, WrongAt of the first wrong step of another
abbrev pub IsVerdict : {A : Type 0} → Config → List (Step A) → Legality → Type 0
IsVerdict s steps Legal = IsLegal s (reverse steps)
IsVerdict s steps (WrongAt i) = IsFirstWrong s steps i
