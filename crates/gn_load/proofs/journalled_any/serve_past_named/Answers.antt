use Rattle.std.proofs.Common.{◌∙◌, is_some, rules, subst, sym}
use Rattle.gn_start.specs.declared.fault.RunFault.TheVariants.{NoMemory}
use Rattle.gn_load.specs.Any.{IsJournalledBy, IsPastAccount}
use Rattle.gn_load.proofs.AnyLemmas.{answered, past_account, unbegun}
use Rattle.gn_load.proofs.JournalLemmas.{journalled_from}
use Rattle.gn_load.proofs.journalled_any.serve_past_named.Goals as goal

pub returns-in_default : goal.returns-in_default
returns-in_default g c =
    let s = c.args.serve.now in
    unbegun (λ account. IsPastAccount (g.P.Past.recalls c.args.past) s.accept.again (is_some s.accept.pings) s.batch s.config.now s.peers.now s.workers account)
    s.config.now s.workers (g.W.Sink.state c.args.sink.now) c.unbegun.result NoMemory c.unbegun.ensures (search rules) (search rules)

pub returns : goal.returns
returns g c =
    let s = c.args.serve.now in
    let recalls = g.P.Past.recalls c.args.past in
    let run = c.serve_past-answer.ensures.served in
    let rest = c.serve_past-answer.ensures.rest in
    let answer = c.serve_past-answer.result.0 in
    let old = g.W.Sink.state c.args.sink.now in
    let mid = g.W.Sink.state c.serve_past-answer.result.1.sink.now in
    let new = g.W.Sink.state c.finish_run-printed.new.sink in
    let has = journalled_from s.config.now c.in-Ok.scribe rest.ran.scribe old (g.W.Sink.state rest.ran.sink.now) mid rest.steps rest.ran.written c.serve_past-answer.result.1.waiting c.in-Ok.ensures.scribe rest.became.1 rest.left.0.1 in
    subst (λ (k : g.row.W.Denot). IsJournalledBy (λ account. IsPastAccount recalls s.accept.again (is_some s.accept.pings) s.batch s.config.now s.peers.now s.workers account) s.config.now s.workers old (g.W.Sink.state k) c.answered.result) (sym (c.sink-1.given.1 (sym (rest.left.0.0 ∙ rest.became.0))))
    (answered (λ account. IsPastAccount recalls s.accept.again (is_some s.accept.pings) s.batch s.config.now s.peers.now s.workers account) s.config.now s.workers rest.steps old mid new answer
    (record {
      crew = c.requires.few;
      bad_workers = run.answered.run.bad_workers;
      fault = run.answered.run.fault;
      full = run.answered.full;
      ran = c.serve_past-answer.ensures.ran;
      account = past_account recalls s.accept.again (is_some s.accept.pings) s.batch s.config.now s.peers.now s.workers answer run.resumed run.account;
      held = rest.held;
      legal = rest.left.1 s.config.now c.requires.named.1;
    })
    c.serve_past-answer.result.1.waiting has c.finish_run-printed.result c.finish_run-printed.ensures c.answered.result c.answered.ensures)
