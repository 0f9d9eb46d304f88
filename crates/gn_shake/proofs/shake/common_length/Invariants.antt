use Rattle.std.proofs.Common.{◌≡◌, ◌+◌, ◌-◌, drop, length}
use Rattle.gn_shake.specs.Shaking.{matching}
use Rattle.gn_shake.proofs.shake.common_length.Given as goal

abbrev pub invariant-loop-n : goal.invariant-loop-n
invariant-loop-n l = l.n + matching (drop l.n l.a) (drop l.n l.b) ≡ matching l.a l.b

abbrev pub decreases-loop-n : goal.decreases-loop-n
decreases-loop-n l = length l.a - l.n
