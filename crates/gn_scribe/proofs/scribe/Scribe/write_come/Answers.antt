use Rattle.std.proofs.Common.{refl}
use Rattle.gn_printed.proofs.PrintLemmas.{on_err}
use Rattle.gn_scribe.proofs.WrittenLemmas.{broken_after, only_looked, written_more}
use Rattle.gn_scribe.proofs.scribe.Scribe.write_come.Goals as goal

pub returns-in_err-write_known-clause-err : goal.returns-in_err-write_known-clause-err
returns-in_err-write_known-clause-err g c =
    on_err c.from_residual.result
    (broken_after c.args.self.now _ _ (g.W.Sink.state c.args.sink.now) (g.W.Sink.state c.args.sink.now) (g.W.Sink.state c.write_known.new.sink)
    (only_looked c.args.self.now _ (g.W.Sink.state c.args.sink.now) c.slots-count.ensures.looked.0 c.slots-count.ensures.looked.1 refl refl) c.in_err-write_known.ensures.err)

pub returns-clause-ok : goal.returns-clause-ok
returns-clause-ok g c =
    written_more c.args.self.now _ _ (g.W.Sink.state c.args.sink.now) (g.W.Sink.state c.args.sink.now) (g.W.Sink.state c.write_known.new.sink)
    (only_looked c.args.self.now _ (g.W.Sink.state c.args.sink.now) c.slots-count.ensures.looked.0 c.slots-count.ensures.looked.1 refl refl) c.in_ok-write_known.ensures.ok
