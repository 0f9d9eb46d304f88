use Rattle.std.proofs.Common.{◌≡◌, ◌≤◌, ◌==◌, false, take, reverse, length, filter}
use Rattle.std.specs.Option.{option_map_or}
use Rattle.gn_rules.specs.Flight.{in_flight, tickets}
use Rattle.gn_search.proofs.flight.flight_count_of.Given as goal

abbrev pub invariant-loop-step : goal.invariant-loop-step
invariant-loop-step g l =
    record {
      bound : l.count ≤ l.step-index;
      value : l.count ≡ length (filter (λ t. option_map_or (λ a. a.origin == l.c) (in_flight (reverse l.history) t) false) (tickets (reverse (take l.step-index l.history))));
    }
