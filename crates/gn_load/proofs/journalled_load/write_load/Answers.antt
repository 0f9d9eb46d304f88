use Rattle.std.proofs.Common.{rules}
use Rattle.gn_load.proofs.JournalledLoadLemmas.{no_crew, unbegun_load}
use Rattle.gn_load.proofs.journalled_load.write_load.Goals as goal

pub returns-then-workers-eq0 : goal.returns-then-workers-eq0
returns-then-workers-eq0 g c =
    no_crew c.args.load.asked.batch c.args.load.asked.config.now c.args.load.links.items c.args.load.asked.workers (g.W.Sink.state c.args.sink.now) (search rules) (search rules)

pub returns-in_err-fresh : goal.returns-in_err-fresh
returns-in_err-fresh g c =
    unbegun_load c.args.load.asked.batch c.args.load.asked.config.now c.args.load.links.items c.args.load.asked.workers (g.W.Sink.state c.args.sink.now) c.from_residual.result c.from_residual.ensures.1
