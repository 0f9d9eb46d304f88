use Rattle.std.proofs.Common.{drop, length, ◌-◌, ◌≡◌, ◌≤◌}
use Rattle.gn_metrics.specs.Counting.{after_bytes, standing}
use Rattle.gn_metrics.proofs.tally.Tally.read.Given as goal

abbrev pub invariant-loop-start : goal.invariant-loop-start
invariant-loop-start l = record {
  within : l.start ≤ length l.piece;
  so_far : after_bytes (standing l.self) (drop l.start l.piece) ≡ after_bytes (standing l.fn.self) l.piece;
}

abbrev pub decreases-loop-start : goal.decreases-loop-start
decreases-loop-start l = length l.piece - l.start
