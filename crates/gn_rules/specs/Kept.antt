-- A router as its callers see it.
use Rattle.std.specs.Prelude.{List}
use Rattle.gn_rules.specs.declared.config.Config.{Config}
use Rattle.gn_rules.specs.declared.receipt.Step.{Step}

-- the configuration that a router was made with, and its steps in order
pub record Kept (A : Type 0) : Type 0 where
  pub settings : Config
  pub steps : List (Step A)
