use Rattle.std.proofs.Common.{◌≡◌, take, reverse}
use Rattle.gn_rules.specs.Statistics.{stats_of}
use Rattle.gn_search.proofs.counting.stats_in.Given as goal

abbrev pub invariant-loop-step : goal.invariant-loop-step
invariant-loop-step g l = l.stats ≡ stats_of (reverse (take l.step-index l.history))
