use Rattle.std.proofs.Common.{◌∙◌, subst, sym}
use Rattle.gn_load.specs.JournalledLoads.{IsJournalledLoad}
use Rattle.gn_load.proofs.JournalLemmas.{journalled_from}
use Rattle.gn_load.proofs.JournalledLoadLemmas.{loaded, unbegun_load}
use Rattle.gn_load.proofs.journalled_load.load_named.Goals as goal

pub returns-in_err-core : goal.returns-in_err-core
returns-in_err-core g c =
    unbegun_load c.args.load.asked.batch c.args.load.asked.config.now c.args.load.links.items c.args.load.asked.workers (g.W.Sink.state c.args.sink.now) c.from_residual.result c.from_residual.ensures.1

pub returns : goal.returns
returns g c =
    let asked = c.args.load.asked in
    let links = c.args.load.links.items in
    let run = c.run_by-answer.ensures.answer in
    let rest = c.run_by-answer.ensures.rest in
    let old = g.W.Sink.state c.args.sink.now in
    let mid = g.W.Sink.state c.run_by-answer.result.1.sink.now in
    let new = g.W.Sink.state c.finish_run-printed.new.sink in
    let has = journalled_from asked.config.now c.in_ok-core.scribe rest.ran.scribe old (g.W.Sink.state rest.ran.sink.now) mid rest.steps rest.ran.written c.run_by-answer.result.1.waiting c.in_ok-core.ensures.scribe rest.became.1 rest.left.0.1 in
    subst (λ (k : g.row.W.Denot). IsJournalledLoad asked.batch asked.config.now links asked.workers old (g.W.Sink.state k) c.load_answer-loaded.result) (sym (c.sink-1.given.1 (sym (rest.left.0.0 ∙ rest.became.0))))
    (loaded asked.batch asked.config.now links asked.workers rest.steps old mid new c.run_by-answer.result.0
    (record {
      crew = c.requires.few.1;
      bad_workers = run.run.bad_workers;
      fault = run.run.fault;
      full = run.full;
      holds = run.run.holds;
      bytes = c.run_by-answer.ensures.bytes;
      made = run.run.made;
      held = rest.held;
      legal = rest.left.1 asked.config.now c.requires.named.1;
    })
    c.run_by-answer.result.1.waiting has c.finish_run-printed.result c.finish_run-printed.ensures c.load_answer-loaded.result c.load_answer-loaded.ensures)
