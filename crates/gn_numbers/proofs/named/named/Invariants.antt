use Rattle.std.proofs.Common.{◌≡◌, length, map}
use Rattle.gn_numbers.specs.Names.{named}
use Rattle.gn_numbers.proofs.named.named.Given as goal

abbrev pub invariant-loop-rows : goal.invariant-loop-rows
invariant-loop-rows g l = named (map (λ row. (row.0.now, row.1)) l.rows) l.field ≡ named (map (λ row. (row.0.now, row.1)) l.initial.rows) l.field

abbrev pub decreases-loop-rows : goal.decreases-loop-rows
decreases-loop-rows g l = length l.rows
