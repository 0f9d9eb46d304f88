use Rattle.std.proofs.Common.{arith}
use Rattle.gn_shake.proofs.GreetingLemmas.{matching_past}
use Rattle.gn_shake.proofs.shake.common_length.Goals as goal

pub returns-else-n-b : goal.returns-else-n-b
returns-else-n-b c = omega (arith, matching_past c.args.a.now c.args.b.now c.loop-n.n c.if-n-b.false)
