use Rattle.std.proofs.Common.{ℕ, ◌<◌, reverse, take}
use Rattle.gn_witness.specs.Pair.{HasMoment}
use Rattle.gn_witness.proofs.moments.carries_in_time.Given as goal

abbrev pub invariant-loop-until : goal.invariant-loop-until
invariant-loop-until g l = (n : ℕ) → n < l.until → HasMoment (reverse l.first) l.c (reverse (take n l.second)) l.d
