use Rattle.std.proofs.Common.{◌≡◌, ◌≤◌, take, reverse, length, filter, not}
use Rattle.gn_rules.specs.Flight.{tickets, is_routed}
use Rattle.gn_search.proofs.flight.flight_count.Given as goal

abbrev pub invariant-loop-step : goal.invariant-loop-step
invariant-loop-step g l =
    record {
      bound : l.count ≤ l.step-index;
      value : l.count ≡ length (filter (λ t. not (is_routed (reverse l.history) t)) (tickets (reverse (take l.step-index l.history))));
    }
