use Rattle.std.proofs.Common.{◌≡◌, ◌≤◌, take, reverse}
use Rattle.gn_rules.specs.Output.{takes}
use Rattle.gn_search.proofs.output.take_count.Given as goal

abbrev pub invariant-loop-step : goal.invariant-loop-step
invariant-loop-step g l =
    record {
      bound : l.count ≤ l.step-index;
      value : l.count ≡ takes (reverse (take l.step-index l.history)) l.c;
    }
