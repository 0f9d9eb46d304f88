use Rattle.std.proofs.Common.{ℕ, Option, arith}
use Rattle.std.specs.declared.alloc.Global.{Global}
use Rattle.gn_rules.specs.declared.receipt.Step.{Step}
use Rattle.gn_stream.specs.Reading.{place}
use Rattle.gn_stream.specs.Steps.{IsStepOrEnd}
use Rattle.gn_replay.proofs.StreamLemmas.{step_grows}
use Rattle.gn_show.proofs.CountLemmas.{counts_all, counts_more, counts_none, counts_refused, counts_unread}
use Rattle.gn_show.proofs.stats.count_steps.Goals as goal

pub loop-step-init : goal.loop-step-init
loop-step-init g c =
    counts_none c.new-stats.result (place (g.S.Source.state c.args.source.now) c.args.lines.now) c.new-stats.ensures

pub returns-in_err-step : goal.returns-in_err-step
returns-in_err-step g c =
    let a = place (g.S.Source.state c.args.source.now) c.args.lines.now in
    let b = place (g.S.Source.state c.loop-step.source) c.loop-step.lines in
    let n = place (g.S.Source.state c.next_step.new.source) c.next_step.new.lines in
    counts_refused {T = Option (ℕ × Step Global)} c.loop-step.stats c.loop-step.index (IsStepOrEnd c.next_step.new.lines.line) a b n c.from_residual.result _ c.from_residual.ensures.1 c.loop-step.invariant c.in_err-step.ensures.read

pub returns-in_err-index : goal.returns-in_err-index
returns-in_err-index g c =
    let a = place (g.S.Source.state c.args.source.now) c.args.lines.now in
    let b = place (g.S.Source.state c.loop-step.source) c.loop-step.lines in
    let n = place (g.S.Source.state c.next_step.new.source) c.next_step.new.lines in
    counts_unread c.loop-step.stats c.loop-step.index _ c.next_step.new.lines.line c.in-Some.step a b n c.from_residual-in_err-index.result c.from_residual-in_err-index.ensures.1
    c.loop-step.invariant (rw c.in-Some.is at c.in_ok-step.ensures.read)

pub loop-step-preserved : goal.loop-step-preserved
loop-step-preserved g c =
    let a = place (g.S.Source.state c.args.source.now) c.args.lines.now in
    let b = place (g.S.Source.state c.loop-step.source) c.loop-step.lines in
    let n = place (g.S.Source.state c.next_step.new.source) c.next_step.new.lines in
    rw c.in_ok-index.ensures
    (counts_more c.loop-step.stats c.raise.new.self c.loop-step.index _ c.next_step.new.lines.line c.in-Some.step a b n (omega arith) (rw c.of-counter.ensures at c.raise.ensures.more)
    c.loop-step.invariant (rw c.in-Some.is at c.in_ok-step.ensures.read))

pub loop-step-smaller : goal.loop-step-smaller
loop-step-smaller g c =
    let a = place (g.S.Source.state c.args.source.now) c.args.lines.now in
    let b = place (g.S.Source.state c.loop-step.source) c.loop-step.lines in
    let n = place (g.S.Source.state c.next_step.new.source) c.next_step.new.lines in
    let grows = step_grows c.next_step.new.lines.line _ c.in-Some.step b n (rw c.in-Some.is at c.in_ok-step.ensures.read) in
    omega (arith, grows.0, grows.1, (rw c.in-Some.is at c.in_ok-step.ensures.numbered))

pub returns : goal.returns
returns g c =
    let a = place (g.S.Source.state c.args.source.now) c.args.lines.now in
    let b = place (g.S.Source.state c.loop-step.source) c.loop-step.lines in
    let n = place (g.S.Source.state c.next_step.new.source) c.next_step.new.lines in
    counts_all c.loop-step.stats c.loop-step.index a b n c.loop-step.invariant (rw c.in_default.is at c.in_ok-step.ensures.read)
