use Rattle.std.proofs.Common.{ap, ◌∙◌}
use Rattle.gn_tables.specs.Servents.{learned}
use Rattle.gn_tables.proofs.ServentLemmas.{learned_in}
use Rattle.gn_tables.proofs.servents.ServentTable.learn.Goals as goal

pub invariant_of-self-2 : goal.invariant_of-self-2
invariant_of-self-2 g c =
    let done = learned_in c.self.inside.routes c.put.new.self c.args.servent c.args.from c.self.invariant.0 c.self.invariant.1 c.in_ok-put.ensures.entries in
    (done.1, done.2)

pub returns-clause-ok : goal.returns-clause-ok
returns-clause-ok g c =
    let done = learned_in c.self.inside.routes c.put.new.self c.args.servent c.args.from c.self.invariant.0 c.self.invariant.1 c.in_ok-put.ensures.entries in
    done.0 ∙ ap (learned c.args.servent c.args.from) c.self.view_is
