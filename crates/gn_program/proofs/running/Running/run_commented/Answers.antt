use Rattle.std.proofs.Common.{is_some, refl, subst, sym, Global}
use Rattle.gn_io.specs.Streams.{SinkState}
use Rattle.gn_comments.specs.Sinks.{without_comments}
use Rattle.gn_load.specs.Any.{IsJournalledTaken}
use Rattle.gn_program.specs.Limits.{goes_on}
use Rattle.gn_program.specs.Runs.{IsWhole}
use Rattle.gn_program.proofs.ServeLemmas.{as_commented}
use Rattle.gn_program.proofs.running.Running.run_commented.Goals as goal

pub returns-clause-ran : goal.returns-clause-ran
returns-clause-ran g c =
    let s = c.args.self.now.serve.now in
    let goes = goes_on c.args.self.now.serving.now in
    let new = c.run_bare-answer.new.writer in
    let begun = g.B.Naming.begun in
    let first = c.new-commented.result in
    let last = g.W.Sink.state c.into_inner.result.sink.now in
    let J = λ (old new : SinkState). (all : SinkState) × IsWhole goes old all new
    × IsJournalledTaken {A = Global} goes s.accept.again (is_some s.accept.pings) s.batch s.config.now s.peers.now s.accept.accept s.workers old all c.run_bare-answer.result in
    as_commented J begun (g.W.Sink.state c.args.lent.sink.now) (without_comments begun (g.W.Sink.state first.sink.now) first.text.items) last last new.text.items c.requires.begun c.new-commented.ensures
    refl c.into_inner.ensures.both
    (subst (λ (k : g.row.W.Denot). J (without_comments begun (g.W.Sink.state first.sink.now) first.text.items) (without_comments begun (g.W.Sink.state k) new.text.items)) (sym c.into_inner.ensures.same) c.run_bare-answer.ensures)
