use Rattle.std.proofs.Common.{◌<◌, true, arith, refl, subst}
use Rattle.gn_printed.proofs.PrintLemmas.{cause_handed, on_err}
use Rattle.gn_scribe.proofs.WrittenLemmas.{broken_after, line_cut, none_ahead, one_ahead, one_taken, stays_ahead, writing_next, writing_none}
use Rattle.gn_scribe.proofs.scribe.Scribe.write_known.Goals as goal

pub loop-place-init : goal.loop-place-init
loop-place-init g c = writing_none c.args.self.now (g.W.Sink.state c.args.sink.now)

pub pop_known-step-requires : goal.pop_known-step-requires
pop_known-step-requires g c =
    one_ahead c.args.self.now c.loop-place.self (g.W.Sink.state c.args.sink.now) (g.W.Sink.state c.loop-place.sink) c.loop-place.place c.loop-place.invariant
    (subst (λ n. c.loop-place.place < n) c.requires c.loop-place-test.true)

pub loop-place-preserved : goal.loop-place-preserved
loop-place-preserved g c =
    writing_next c.args.self.now c.loop-place.self (record { steps = c.pop_known-step.new.self; block = c.loop-place.self.block; is_begun = true }) _ (g.W.Sink.state c.args.sink.now) (g.W.Sink.state c.loop-place.sink) (g.W.Sink.state c.print_step-printed.new.sink)
    c.loop-place.place c.pop_known-step.result c.loop-place.invariant c.pop_known-step.ensures.ring c.pop_known-step.ensures.received.0 c.pop_known-step.ensures.received.1 refl
    c.in_ok-printed.ensures.ok c.in_ok-printed.ensures.small c.in_ok-printed.ensures.writes refl

pub returns-in_err-printed-clause-ahead : goal.returns-in_err-printed-clause-ahead
returns-in_err-printed-clause-ahead g c =
    one_taken c.args.self.now.steps c.loop-place.self.steps c.pop_known-step.new.self c.pop_known-step.result
    (stays_ahead c.args.self.now c.loop-place.self (g.W.Sink.state c.args.sink.now) (g.W.Sink.state c.loop-place.sink) c.loop-place.place c.loop-place.invariant)
    c.pop_known-step.ensures.received.0 c.pop_known-step.ensures.received.1

pub returns-in_err-printed-clause-err : goal.returns-in_err-printed-clause-err
returns-in_err-printed-clause-err g c =
    on_err c.from_residual.result
    (broken_after c.args.self.now c.loop-place.self _ (g.W.Sink.state c.args.sink.now) (g.W.Sink.state c.loop-place.sink) (g.W.Sink.state c.print_step-printed.new.sink) c.loop-place.invariant.so_far
    (line_cut c.loop-place.self (record { steps = c.pop_known-step.new.self; block = c.loop-place.self.block; is_begun = true }) _ (g.W.Sink.state c.loop-place.sink) (g.W.Sink.state c.print_step-printed.new.sink)
    c.pop_known-step.result c.pop_known-step.ensures.ring c.pop_known-step.ensures.received.0 refl c.in_err-printed.ensures.err))

pub returns-in_err-printed-clause-cause : goal.returns-in_err-printed-clause-cause
returns-in_err-printed-clause-cause g c =
    cause_handed c.from_residual.result c.in_err-printed.field-0.0 (g.W.Sink.state c.args.sink.now) (g.W.Sink.state c.loop-place.sink) (g.W.Sink.state c.print_step-printed.new.sink)
    c.from_residual.ensures.1 c.loop-place.invariant.so_far.unfailed c.in_err-printed.ensures.cause

pub returns-clause-ok : goal.returns-clause-ok
returns-clause-ok g c = c.loop-place.invariant.so_far

pub returns-clause-all : goal.returns-clause-all
returns-clause-all g c =
    none_ahead c.args.self.now c.loop-place.self (g.W.Sink.state c.args.sink.now) (g.W.Sink.state c.loop-place.sink) c.loop-place.place c.loop-place.invariant
    (omega (arith, c.loop-place-test.false, c.loop-place.auto.place-end, c.requires))

pub returns-clause-ahead : goal.returns-clause-ahead
returns-clause-ahead g c =
    stays_ahead c.args.self.now c.loop-place.self (g.W.Sink.state c.args.sink.now) (g.W.Sink.state c.loop-place.sink) c.loop-place.place c.loop-place.invariant
