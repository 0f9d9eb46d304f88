use Rattle.std.proofs.Common.{take, reverse}
use Rattle.gn_rules.specs.Answer.{IsLegal}
use Rattle.gn_witness.proofs.legality.legal.Given as goal

abbrev pub invariant-loop-i : goal.invariant-loop-i
invariant-loop-i g l = IsLegal l.config (reverse (take l.i l.steps))
