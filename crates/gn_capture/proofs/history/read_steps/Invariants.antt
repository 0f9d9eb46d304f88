use Rattle.std.specs.Prelude.{◌≡◌, length}
use Rattle.gn_capture.specs.Histories.{steps_left}
use Rattle.gn_capture.proofs.StepsLemmas.{known}
use Rattle.gn_capture.proofs.history.read_steps.Given as goal

abbrev pub invariant-loop-steps : goal.invariant-loop-steps
invariant-loop-steps g l = record { known : known l.steps.items l.left ≡ steps_left l.fn.left }

abbrev pub decreases-loop-steps : goal.decreases-loop-steps
decreases-loop-steps g l = length l.left.lines
