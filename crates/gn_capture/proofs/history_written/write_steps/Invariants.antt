use Rattle.std.proofs.Common.{◌≡◌, ◌++◌, take}
use Rattle.gn_capture.specs.Histories.{steps_text}
use Rattle.gn_capture.proofs.history_written.write_steps.Given as goal

abbrev pub invariant-loop-step : goal.invariant-loop-step
invariant-loop-step g l = l.out.items ≡ l.fn.out.items ++ steps_text (take l.step-index l.steps)
