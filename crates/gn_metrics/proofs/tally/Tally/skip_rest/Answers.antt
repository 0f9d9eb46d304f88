use Rattle.std.proofs.Common.{sym}
use Rattle.gn_metrics.specs.Counting.{standing}
use Rattle.gn_metrics.proofs.TallyLemmas.{rest_found, rest_none}
use Rattle.gn_metrics.proofs.tally.Tally.skip_rest.Goals as goal

pub returns-in-Some-clause-goes : goal.returns-in-Some-clause-goes
returns-in-Some-clause-goes c =
    sym (rest_found (standing c.args.self.now) c.args.text.now c.in-Some.at c.requires.here c.in-Some.ensures)

pub returns-in-None-clause-goes : goal.returns-in-None-clause-goes
returns-in-None-clause-goes c = sym (rest_none (standing c.args.self.now) c.args.text.now c.requires.here c.in-None.ensures)
