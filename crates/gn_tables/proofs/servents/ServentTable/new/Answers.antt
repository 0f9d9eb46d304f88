use Rattle.std.proofs.Common.{arith}
use Rattle.std.specs.List.{IsDistinct}
use Rattle.gn_tables.proofs.servents.ServentTable.new.Goals as goal

pub unreachable-requires : goal.unreachable-requires
unreachable-requires g c = omega (arith, c.in-None.ensures, c.requires.positive)

pub invariant_of-result : goal.invariant_of-result
unfolding IsDistinct
invariant_of-result g c =
    rw c.in_ok-sparse-in-Some.ensures (omega (arith, c.in-Some.ensures, c.requires.positive), record { few = omega arith; distinct = tt })
