use Rattle.std.proofs.Common.{ap, is_some, sym, subst, ◌∙◌, Bool, Option, ℕ, Global}
use Rattle.gn_io.specs.Streams.{SinkState}
use Rattle.gn_load.specs.Any.{IsJournalledTaken}
use Rattle.gn_program.specs.Limits.{goes_on}
use Rattle.gn_program.specs.Runs.{IsWhole}
use Rattle.gn_program.proofs.ServeLemmas.{goes_on_any, went_anew, went_on}
use Rattle.gn_program.proofs.running.Running.run_bare.Goals as goal

pub returns-then-goes_on : goal.returns-then-goes_on
returns-then-goes_on g c =
    let s = c.args.self.now.serve.now in
    let serving = c.args.self.now.serving.now in
    let old = g.W.Sink.state c.args.writer.now in
    let is = sym c.goes_on.ensures ∙ c.if-goes_on.true in
    let J = λ (goes : Bool) (accept : Option ℕ) (all : SinkState). IsJournalledTaken {A = Global} goes s.accept.again (is_some s.accept.pings) s.batch s.config.now s.peers.now accept s.workers old all c.run_rest-answer.result.0 in
    let value = ap (λ (k : g.row.W.Denot). g.W.Sink.state k) (sym (c.writer-1.given.1 (sym c.run_rest-answer.ensures.here))) in
    subst (λ (new : SinkState). (all : SinkState) × IsWhole (goes_on serving) old all new × J (goes_on serving) s.accept.accept all) value
    (went_on J (goes_on serving) s.accept.accept old (g.W.Sink.state c.run_rest-answer.result.1.sink.now) is (c.args.self.now.accept ∙ goes_on_any serving is) c.run_rest-answer.ensures.ran)

pub returns : goal.returns
returns g c =
    let s = c.args.self.now.serve.now in
    let serving = c.args.self.now.serving.now in
    let old = g.W.Sink.state c.args.writer.now in
    went_anew (λ goes accept all. IsJournalledTaken {A = Global} goes s.accept.again (is_some s.accept.pings) s.batch s.config.now s.peers.now accept s.workers old all c.serve_taken.result)
    (goes_on serving) s.accept.accept old (g.W.Sink.state c.serve_taken.new.sink) (sym c.goes_on.ensures ∙ c.if-goes_on.false) c.serve_taken.ensures
