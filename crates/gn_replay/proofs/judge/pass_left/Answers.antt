use Rattle.std.proofs.Common.{ℕ, Option, arith}
use Rattle.gn_rules.specs.declared.receipt.Step.{Step}
use Rattle.gn_stream.specs.Reading.{place}
use Rattle.gn_stream.specs.Steps.{IsStepOrEnd}
use Rattle.gn_replay.proofs.StreamLemmas.{read_all, read_more, read_none, read_refused, step_grows}
use Rattle.gn_replay.proofs.judge.pass_left.Goals as goal

pub loop-step-init : goal.loop-step-init
loop-step-init g c = read_none g.row.A.Denot (place (g.S.Source.state c.args.source.now) c.args.lines.now)

pub loop-step-preserved : goal.loop-step-preserved
loop-step-preserved g c =
    read_more c.next_step.new.lines.line _ c.in-Some.step (place (g.S.Source.state c.args.source.now) c.args.lines.now)
    (place (g.S.Source.state c.loop-step.source) c.loop-step.lines) (place (g.S.Source.state c.next_step.new.source) c.next_step.new.lines)
    c.loop-step.invariant (rw c.in-Some.is at c.in_ok-step.ensures.read)

pub loop-step-smaller : goal.loop-step-smaller
loop-step-smaller g c =
    let grows =
    step_grows c.next_step.new.lines.line _ c.in-Some.step (place (g.S.Source.state c.loop-step.source) c.loop-step.lines)
    (place (g.S.Source.state c.next_step.new.source) c.next_step.new.lines) (rw c.in-Some.is at c.in_ok-step.ensures.read) in
    omega (arith, grows.0, grows.1, (rw c.in-Some.is at c.in_ok-step.ensures.numbered))

pub returns-in_err-step : goal.returns-in_err-step
returns-in_err-step g c =
    read_refused {T = Option (ℕ × Step g.row.A.Denot)} g.row.A.Denot (IsStepOrEnd c.next_step.new.lines.line) _ (place (g.S.Source.state c.args.source.now) c.args.lines.now) (place (g.S.Source.state c.loop-step.source) c.loop-step.lines)
    (place (g.S.Source.state c.next_step.new.source) c.next_step.new.lines) c.from_residual.result _ c.from_residual.ensures.1 c.loop-step.invariant c.in_err-step.ensures.read

pub returns : goal.returns
returns g c =
    read_all g.row.A.Denot (place (g.S.Source.state c.args.source.now) c.args.lines.now) (place (g.S.Source.state c.loop-step.source) c.loop-step.lines)
    (place (g.S.Source.state c.next_step.new.source) c.next_step.new.lines) c.loop-step.invariant (rw c.in_default.is at c.in_ok-step.ensures.read)
