use Rattle.std.proofs.Common.{◌≡◌, ◌≤◌, take, reverse, length}
use Rattle.gn_rules.specs.Flight.{tickets}
use Rattle.gn_search.proofs.flight.ticket_count.Given as goal

abbrev pub invariant-loop-step : goal.invariant-loop-step
invariant-loop-step g l =
    record {
      bound : l.count ≤ l.step-index;
      value : l.count ≡ length (tickets (reverse (take l.step-index l.history)));
    }
