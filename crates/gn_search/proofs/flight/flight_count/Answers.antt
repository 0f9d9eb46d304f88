use Rattle.std.proofs.Common.{◌∙◌, ap, arith, filter, length, not, reverse}
use Rattle.gn_rules.specs.Flight.{is_routed, tickets}
use Rattle.gn_search.proofs.CountLemmas.{tickets_more_of, walked}
use Rattle.gn_search.proofs.flight.flight_count.Goals as goal

pub loop-step-preserved : goal.loop-step-preserved
loop-step-preserved g c = record {
  bound = omega (arith, c.flights_given-count.ensures.bound);
  value =
      tickets_more_of (λ t. not (is_routed (reverse c.args.history.now) t)) c.args.history.now c.loop-step.step-index c.step-item.result c.loop-step.count c.flights_given-count.result c.loop-step-test.true c.step-item.is
      c.loop-step.invariant.value c.flights_given-count.ensures.value;
}

pub returns : goal.returns
returns g c =
    c.loop-step.invariant.value ∙ ap (λ past. length (filter (λ t. not (is_routed (reverse c.args.history.now) t)) (tickets past))) (walked c.args.history.now c.loop-step.step-index c.loop-step-test.false)
