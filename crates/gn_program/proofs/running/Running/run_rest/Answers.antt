use Rattle.std.proofs.Common.{None, is_some, refl, subst, sym, true, Global}
use Rattle.gn_io.specs.Streams.{SinkState}
use Rattle.gn_comments.specs.Rests.{with_all}
use Rattle.gn_load.specs.Any.{IsJournalledTaken}
use Rattle.gn_program.proofs.ServeLemmas.{as_rest}
use Rattle.gn_program.proofs.running.Running.run_rest.Goals as goal

pub returns-clause-ran : goal.returns-clause-ran
returns-clause-ran g c =
    let s = c.args.self.now.serve.now in
    let new = c.serve_resumed-answer.new.sink in
    let begun = g.B.Naming.begun in
    let first = c.new-rest.result in
    let last = g.W.Sink.state c.into_inner.result.sink.now in
    let J = λ (old new : SinkState). IsJournalledTaken {A = Global} true s.accept.again (is_some s.accept.pings) s.batch s.config.now s.peers.now None s.workers old new c.serve_resumed-answer.result in
    as_rest J begun (g.W.Sink.state c.args.lent.sink.now) (with_all begun (g.W.Sink.state first.sink.now) first.text.items) last last new.text.items c.requires.begun c.new-rest.ensures
    refl c.into_inner.ensures.rest
    (subst (λ (k : g.row.W.Denot). J (with_all begun (g.W.Sink.state first.sink.now) first.text.items) (with_all begun (g.W.Sink.state k) new.text.items)) (sym c.into_inner.ensures.same) c.serve_resumed-answer.ensures)
