-- By what a run over TCP is stopped.
use Rattle.std.specs.Prelude.{Bool, Option}
use Rattle.std.specs.declared.time.Duration.{Duration}

-- what stops a run, beside whoever holds its Stop: a time limit, where there is one, and nine tenths of its steps
pub record Stopping : Type 0 where
  pub limit : Option Duration
  pub is_early : Bool
