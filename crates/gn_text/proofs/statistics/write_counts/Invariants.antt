use Rattle.std.proofs.Common.{◌≡◌, ◌++◌, take}
use Rattle.gn_text.specs.Statistics.{counts_text}
use Rattle.gn_text.proofs.statistics.write_counts.Given as goal

abbrev pub invariant-loop-counter : goal.invariant-loop-counter
invariant-loop-counter g l = l.out.items ≡ l.fn.out.items ++ counts_text l.stats (take l.counter-index l.counters)
