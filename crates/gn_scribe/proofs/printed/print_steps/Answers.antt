use Rattle.std.proofs.Common.{◌∙◌}
use Rattle.gn_text.specs.Steps.{step_text}
use Rattle.gn_printed.proofs.PrintLemmas.{cause_handed, next_cut, next_left, on_err}
use Rattle.gn_scribe.proofs.printed.print_steps.Goals as goal

pub returns-in_err-print_step-clause-err : goal.returns-in_err-print_step-clause-err
returns-in_err-print_step-clause-err g c =
    on_err c.from_residual.result
    (next_cut step_text c.args.steps.now c.loop-step.step-index c.step-item.result c.loop-step-test.true c.step-item.is (g.W.Sink.state c.args.sink.now).written
    (g.W.Sink.state c.loop-step.sink).written (g.W.Sink.state c.print_step.new.sink).written c.args.block.now c.loop-step.block c.loop-step.invariant.left
    c.in_err-print_step.ensures.err)

pub loop-step-preserved : goal.loop-step-preserved
loop-step-preserved g c = record {
  left =
      next_left step_text c.args.steps.now c.loop-step.step-index c.step-item.result c.loop-step-test.true c.step-item.is (g.W.Sink.state c.args.sink.now).written
      (g.W.Sink.state c.loop-step.sink).written (g.W.Sink.state c.print_step.new.sink).written c.args.block.now c.loop-step.block c.print_step.new.block
      c.loop-step.invariant.left c.in_ok-print_step.ensures.ok;
  small = λ _. c.in_ok-print_step.ensures.small;
  unfailed =
      (c.in_ok-print_step.ensures.writes.0 ∙ c.loop-step.invariant.unfailed.0, c.in_ok-print_step.ensures.writes.1 ∙ c.loop-step.invariant.unfailed.1);
}

pub returns-in_err-print_step-clause-cause : goal.returns-in_err-print_step-clause-cause
returns-in_err-print_step-clause-cause g c =
    cause_handed c.from_residual.result c.in_err-print_step.field-0.0 (g.W.Sink.state c.args.sink.now) (g.W.Sink.state c.loop-step.sink) (g.W.Sink.state c.print_step.new.sink)
    c.from_residual.ensures.1 c.loop-step.invariant.unfailed c.in_err-print_step.ensures.cause
