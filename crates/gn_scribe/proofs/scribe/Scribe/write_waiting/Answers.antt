use Rattle.std.proofs.Common.{refl}
use Rattle.gn_printed.proofs.PrintLemmas.{on_err}
use Rattle.gn_scribe.proofs.WrittenLemmas.{waiting_broken, waiting_written}
use Rattle.gn_scribe.proofs.scribe.Scribe.write_waiting.Goals as goal

pub returns-in_err-write_rest-clause-err : goal.returns-in_err-write_rest-clause-err
returns-in_err-write_rest-clause-err g c =
    on_err c.from_residual.result (waiting_broken c.args.self.now _ (g.W.Sink.state c.args.sink.now) (g.W.Sink.state c.write_rest.new.sink) refl c.in_err-write_rest.ensures.err)

pub returns-clause-ok : goal.returns-clause-ok
returns-clause-ok g c =
    waiting_written c.args.self.now _ (g.W.Sink.state c.args.sink.now) (g.W.Sink.state c.write_rest.new.sink) refl c.write_rest.ensures.empty refl c.in_ok-write_rest.ensures.ok
    c.in_ok-write_rest.ensures.unfailed
