use Rattle.std.proofs.Common.{◌≡◌, take}
use Rattle.gn_rules.proofs.sends.are_same_sends.Given as goal

abbrev pub invariant-loop-i : goal.invariant-loop-i
invariant-loop-i g l = take l.i l.xs ≡ take l.i l.ys
