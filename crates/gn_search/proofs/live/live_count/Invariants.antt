use Rattle.std.proofs.Common.{◌≡◌, ◌≤◌, take, reverse, length, filter}
use Rattle.gn_rules.specs.History.{connections, live}
use Rattle.gn_search.proofs.live.live_count.Given as goal

abbrev pub invariant-loop-step : goal.invariant-loop-step
invariant-loop-step g l =
    record {
      bound : l.count ≤ l.step-index;
      value : l.count ≡ length (filter (live (reverse l.history)) (connections (reverse (take l.step-index l.history))));
    }
