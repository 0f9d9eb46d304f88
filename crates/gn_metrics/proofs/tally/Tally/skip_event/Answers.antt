use Rattle.std.proofs.Common.{ap, sym, ◌∙◌}
use Rattle.gn_metrics.specs.Counting.{moved, standing}
use Rattle.gn_metrics.specs.declared.tally.Place.{Place}
use Rattle.gn_metrics.proofs.TallyLemmas.{event_found, event_none}
use Rattle.gn_metrics.proofs.tally.Tally.skip_event.Goals as goal

pub returns-in-Some-clause-goes : goal.returns-in-Some-clause-goes
returns-in-Some-clause-goes c =
    let old = standing c.args.self.now in
    ap (λ (place : Place). moved place old) c.behind_event-self.ensures
    ∙ sym (event_found old c.args.text.now c.in-Some.at c.requires.here c.in-Some.ensures)

pub returns-in-None-clause-goes : goal.returns-in-None-clause-goes
returns-in-None-clause-goes c = sym (event_none (standing c.args.self.now) c.args.text.now c.requires.here c.in-None.ensures)
