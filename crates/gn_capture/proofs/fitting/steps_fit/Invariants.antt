use Rattle.std.proofs.Common.{take}
use Rattle.std.specs.List.{AllByRecursion}
use Rattle.gn_capture.specs.RoundTrip.{IsStep}
use Rattle.gn_capture.proofs.fitting.steps_fit.Given as goal

abbrev pub invariant-loop-step : goal.invariant-loop-step
invariant-loop-step g l = AllByRecursion IsStep (take l.step-index l.steps)
