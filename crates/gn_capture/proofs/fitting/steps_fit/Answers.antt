use Rattle.gn_capture.specs.RoundTrip.{IsStep}
use Rattle.gn_capture.proofs.FittingLemmas.{all_more, all_taken}
use Rattle.gn_capture.proofs.fitting.steps_fit.Goals as goal

pub loop-step-preserved : goal.loop-step-preserved
loop-step-preserved g c =
    all_more IsStep c.args.steps.now c.loop-step.step-index c.step-item.result c.loop-step-test.true c.step-item.is c.loop-step.invariant c.step_fits.ensures

pub returns : goal.returns
returns g c = all_taken IsStep c.args.steps.now c.loop-step.step-index c.loop-step-test.false c.loop-step.invariant
