use Rattle.std.proofs.Common.{◌∙◌, ◌==◌, ap, arith, false, filter, length, reverse}
use Rattle.std.specs.Option.{option_map_or}
use Rattle.gn_rules.specs.Flight.{in_flight, tickets}
use Rattle.gn_search.proofs.CountLemmas.{tickets_more_of, walked}
use Rattle.gn_search.proofs.FlightLemmas.{from_flying}
use Rattle.gn_search.proofs.flight.flight_count_of.Goals as goal

pub loop-step-preserved : goal.loop-step-preserved
loop-step-preserved g c = record {
  bound = omega (arith, c.flights_given_to-count.ensures.bound);
  value =
      tickets_more_of (λ t. option_map_or (λ a. a.origin == c.args.c) (in_flight (reverse c.args.history.now) t) false) c.args.history.now c.loop-step.step-index c.step-item.result c.loop-step.count c.flights_given_to-count.result c.loop-step-test.true c.step-item.is
      c.loop-step.invariant.value c.flights_given_to-count.ensures.value;
}

pub returns : goal.returns
returns g c =
    let past = reverse c.args.history.now in
    c.loop-step.invariant.value
    ∙ ap (λ xs. length (filter (λ t. option_map_or (λ a. a.origin == c.args.c) (in_flight past t) false) (tickets xs))) (walked c.args.history.now c.loop-step.step-index c.loop-step-test.false)
    ∙ from_flying past c.args.c
