use Rattle.std.proofs.Common.{◌∙◌, ap}
use Rattle.gn_rules.specs.Flight.{is_routed}
use Rattle.gn_search.proofs.CountLemmas.{walked}
use Rattle.gn_search.proofs.flight.is_routed_in.Goals as goal

pub returns : goal.returns
returns g c = c.loop-step.invariant ∙ ap (λ past. is_routed past c.args.t) (walked c.args.history.now c.loop-step.step-index c.loop-step-test.false)
