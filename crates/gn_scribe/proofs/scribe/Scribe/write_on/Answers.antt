use Rattle.gn_printed.proofs.PrintLemmas.{cause_handed, on_err}
use Rattle.gn_scribe.proofs.WrittenLemmas.{broken_after, written_more, written_none}
use Rattle.gn_scribe.proofs.scribe.Scribe.write_on.Goals as goal

pub loop-init : goal.loop-init
loop-init g c = written_none c.args.self.now (g.W.Sink.state c.args.sink.now)

pub returns-in_err-turn-clause-err : goal.returns-in_err-turn-clause-err
returns-in_err-turn-clause-err g c =
    on_err c.from_residual.result
    (broken_after c.args.self.now c.loop.self c.turn.new.self (g.W.Sink.state c.args.sink.now) (g.W.Sink.state c.loop.sink) (g.W.Sink.state c.turn.new.sink) c.loop.invariant
    c.in_err-turn.ensures.err)

pub returns-in_err-turn-clause-cause : goal.returns-in_err-turn-clause-cause
returns-in_err-turn-clause-cause g c =
    cause_handed c.from_residual.result c.in_err-turn.field-0.0 (g.W.Sink.state c.args.sink.now) (g.W.Sink.state c.loop.sink) (g.W.Sink.state c.turn.new.sink)
    c.from_residual.ensures.1 c.loop.invariant.unfailed c.in_err-turn.ensures.cause

pub returns-then-branch-clause-ok : goal.returns-then-branch-clause-ok
returns-then-branch-clause-ok g c =
    written_more c.args.self.now c.loop.self c.turn.new.self (g.W.Sink.state c.args.sink.now) (g.W.Sink.state c.loop.sink) (g.W.Sink.state c.turn.new.sink) c.loop.invariant
    c.in_ok-turn.ensures.ok

pub loop-preserved : goal.loop-preserved
loop-preserved g c =
    written_more c.args.self.now c.loop.self c.turn.new.self (g.W.Sink.state c.args.sink.now) (g.W.Sink.state c.loop.sink) (g.W.Sink.state c.turn.new.sink) c.loop.invariant
    c.in_ok-turn.ensures.ok
