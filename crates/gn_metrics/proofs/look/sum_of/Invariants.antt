use Rattle.std.proofs.Common.{◌≡◌, take}
use Rattle.gn_metrics.specs.Sums.{sum_up}
use Rattle.gn_metrics.proofs.look.sum_of.Given as goal

abbrev pub invariant-loop-count : goal.invariant-loop-count
invariant-loop-count l = l.sum ≡ sum_up (take l.count-index l.counts)
