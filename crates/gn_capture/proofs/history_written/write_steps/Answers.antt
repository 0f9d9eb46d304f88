use Rattle.std.proofs.Common.{◌∙◌}
use Rattle.gn_text.specs.Steps.{step_text}
use Rattle.gn_text.proofs.KeptLemmas.{begins, items_done, items_more, on_error}
use Rattle.gn_capture.proofs.history_written.write_steps.Goals as goal

pub returns-in_err-push_step-clause-err : goal.returns-in_err-push_step-clause-err
returns-in_err-push_step-clause-err g c =
    on_error c.from_residual.result (begins c.args.out.now.items _ c.push_step.new.out.items (c.in_err-push_step.ensures.err ∙ c.loop-step.invariant))

pub loop-step-preserved : goal.loop-step-preserved
loop-step-preserved g c =
    items_more step_text c.args.out.now.items c.loop-step.out.items c.push_step.new.out.items c.args.steps.now c.loop-step.step-index c.step-item.result _ c.loop-step-test.true
    c.step-item.is c.loop-step.invariant c.in_ok-push_step.ensures.ok

pub returns-clause-ok : goal.returns-clause-ok
returns-clause-ok g c =
    items_done step_text c.args.out.now.items c.loop-step.out.items c.args.steps.now c.loop-step.step-index c.loop-step-test.false c.loop-step.invariant
