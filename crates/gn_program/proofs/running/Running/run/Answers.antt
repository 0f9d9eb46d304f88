use Rattle.std.proofs.Common.{ap, is_some, sym, subst, ◌∙◌, Global}
use Rattle.gn_io.specs.Streams.{SinkState}
use Rattle.gn_load.specs.Any.{IsJournalledTaken}
use Rattle.gn_program.specs.Limits.{goes_on}
use Rattle.gn_program.specs.Serves.{IsWritten, has_comments}
use Rattle.gn_program.proofs.ServeLemmas.{with_comments, with_none}
use Rattle.gn_program.proofs.running.Running.run.Goals as goal

pub returns-then-is_commented : goal.returns-then-is_commented
returns-then-is_commented g c =
    let s = c.args.self.now.serve.now in
    let goes = goes_on c.args.self.now.serving.now in
    let has = has_comments c.args.self.now.serving.now in
    let old = g.W.Sink.state c.args.writer.now in
    let J = λ (all : SinkState). IsJournalledTaken {A = Global} goes s.accept.again (is_some s.accept.pings) s.batch s.config.now s.peers.now s.accept.accept s.workers old all c.run_commented-answer.result.0 in
    let value = ap (λ (k : g.row.W.Denot). g.W.Sink.state k) (sym (c.writer-1.given.1 (sym c.run_commented-answer.ensures.here))) in
    subst (λ (new : SinkState). (all : SinkState) × IsWritten goes has old all new × J all) value
    (with_comments J goes has old (g.W.Sink.state c.run_commented-answer.result.1.sink.now) (sym c.is_commented.ensures ∙ c.if-is_commented.true) c.run_commented-answer.ensures.ran)

pub returns : goal.returns
returns g c =
    let s = c.args.self.now.serve.now in
    let goes = goes_on c.args.self.now.serving.now in
    let old = g.W.Sink.state c.args.writer.now in
    with_none (λ all. IsJournalledTaken {A = Global} goes s.accept.again (is_some s.accept.pings) s.batch s.config.now s.peers.now s.accept.accept s.workers old all c.run_bare.result)
    goes (has_comments c.args.self.now.serving.now) old (g.W.Sink.state c.run_bare.new.writer) (sym c.is_commented.ensures ∙ c.if-is_commented.false) c.run_bare.ensures
