use Rattle.std.proofs.Common.{◌∙◌, Ok, subst}
use Rattle.gn_capture.specs.Histories.{IsNextOf, steps_left}
use Rattle.gn_capture.proofs.StepsLemmas.{one_known}
use Rattle.gn_capture.proofs.history.read_steps.Goals as goal

pub loop-steps-preserved : goal.loop-steps-preserved
loop-steps-preserved g c = record {
  known = rw c.in_ok-push.ensures.items
      (one_known c.loop-steps.steps.items c.loop-steps.left c.next_step.new.self c.in-Some.step (subst (λ found. IsNextOf (Ok found) (steps_left c.loop-steps.left) (steps_left c.next_step.new.self)) c.in-Some.is c.in_ok-step.ensures.next) ∙ c.loop-steps.invariant.known);
}
