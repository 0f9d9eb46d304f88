use Rattle.std.proofs.Common.{◌∙◌, rules, subst, sym}
use Rattle.gn_start.specs.declared.fault.RunFault.TheVariants.{NoMemory}
use Rattle.gn_load.specs.Journalled.{IsJournalled}
use Rattle.gn_load.proofs.JournalLemmas.{answered, journalled_from, unbegun}
use Rattle.gn_load.proofs.journalled.serve_named.Goals as goal

pub returns-in_default : goal.returns-in_default
returns-in_default g c =
    unbegun c.args.serve.now.batch c.args.serve.now.config.now c.args.serve.now.peers.now c.args.serve.now.accept c.args.serve.now.workers (g.W.Sink.state c.args.sink.now) c.unbegun.result NoMemory c.unbegun.ensures (search rules) (search rules)

pub returns : goal.returns
returns g c =
    let s = c.args.serve.now in
    let run = c.serve_by-answer.ensures.served in
    let rest = c.serve_by-answer.ensures.rest in
    let old = g.W.Sink.state c.args.sink.now in
    let mid = g.W.Sink.state c.serve_by-answer.result.1.sink.now in
    let new = g.W.Sink.state c.finish_run-printed.new.sink in
    let has = journalled_from s.config.now c.in-Ok.scribe rest.ran.scribe old (g.W.Sink.state rest.ran.sink.now) mid rest.steps rest.ran.written c.serve_by-answer.result.1.waiting c.in-Ok.ensures.scribe rest.became.1 rest.left.0.1 in
    subst (λ (k : g.row.W.Denot). IsJournalled s.batch s.config.now s.peers.now s.accept s.workers old (g.W.Sink.state k) c.answered.result) (sym (c.sink-1.given.1 (sym (rest.left.0.0 ∙ rest.became.0))))
    (answered s.batch s.config.now s.peers.now s.accept s.workers rest.steps old mid new c.serve_by-answer.result.0
    (record {
      crew = c.requires.few.1;
      bad_workers = run.answered.run.bad_workers;
      fault = run.answered.run.fault;
      full = run.answered.full;
      tallied = c.serve_by-answer.ensures.tallied;
      ran = c.serve_by-answer.ensures.ran;
      holds = run.answered.run.holds;
      made = run.answered.run.made;
      one_socket = run.one_socket;
      held = rest.held;
      legal = rest.left.1 s.config.now c.requires.named.1;
    })
    c.serve_by-answer.result.1.waiting has c.finish_run-printed.result c.finish_run-printed.ensures c.answered.result c.answered.ensures.answered c.answered.ensures.tallies)
