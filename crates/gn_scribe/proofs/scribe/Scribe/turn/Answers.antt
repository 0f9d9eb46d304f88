use Rattle.gn_printed.proofs.PrintLemmas.{cause_handed, on_err}
use Rattle.gn_scribe.proofs.WrittenLemmas.{broken_after, written_more}
use Rattle.gn_scribe.proofs.scribe.Scribe.turn.Goals as goal

pub returns-then-has_more-clause-ok : goal.returns-then-has_more-clause-ok
returns-then-has_more-clause-ok g c =
    let sink = g.W.Sink.state c.write_come.new.sink in
    written_more c.args.self.now c.write_come.new.self c.has_more.new.self (g.W.Sink.state c.args.sink.now) sink sink c.in_ok-count.ensures.ok (c.has_more.ensures sink)

pub returns-in_err-write_waiting-clause-err : goal.returns-in_err-write_waiting-clause-err
returns-in_err-write_waiting-clause-err g c =
    let sink = g.W.Sink.state c.write_come.new.sink in
    let so_far = written_more c.args.self.now c.write_come.new.self c.has_more.new.self (g.W.Sink.state c.args.sink.now) sink sink c.in_ok-count.ensures.ok (c.has_more.ensures sink) in
    on_err c.from_residual-in_err-write_waiting.result
    (broken_after c.args.self.now c.has_more.new.self c.write_waiting.new.self (g.W.Sink.state c.args.sink.now) sink (g.W.Sink.state c.write_waiting.new.sink) so_far
    c.in_err-write_waiting.ensures.err)

pub returns-in_err-write_waiting-clause-cause : goal.returns-in_err-write_waiting-clause-cause
returns-in_err-write_waiting-clause-cause g c =
    cause_handed c.from_residual-in_err-write_waiting.result c.in_err-write_waiting.field-0.0 (g.W.Sink.state c.args.sink.now) (g.W.Sink.state c.write_come.new.sink)
    (g.W.Sink.state c.write_waiting.new.sink) c.from_residual-in_err-write_waiting.ensures.1 c.in_ok-count.ensures.ok.unfailed c.in_err-write_waiting.ensures.cause

pub returns-clause-ok : goal.returns-clause-ok
returns-clause-ok g c =
    let sink = g.W.Sink.state c.write_come.new.sink in
    let so_far = written_more c.args.self.now c.write_come.new.self c.has_more.new.self (g.W.Sink.state c.args.sink.now) sink sink c.in_ok-count.ensures.ok (c.has_more.ensures sink) in
    written_more c.args.self.now c.has_more.new.self c.write_waiting.new.self (g.W.Sink.state c.args.sink.now) sink (g.W.Sink.state c.write_waiting.new.sink) so_far
    c.in_ok-write_waiting.ensures.ok
