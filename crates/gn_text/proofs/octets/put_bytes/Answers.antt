use Rattle.std.proofs.Common.{arith}
use Rattle.gn_text.proofs.DigitLemmas.{pair_more, pairs_done}
use Rattle.gn_text.proofs.octets.put_bytes.Goals as goal

pub loop-i-preserved : goal.loop-i-preserved
loop-i-preserved c =
    pair_more c.args.digits.now c.loop-i.bytes c.loop-i.i _ _ (omega arith) (omega arith) c.digit_value-high.ensures c.digit_value-low.ensures
    c.loop-i.all c.loop-i.invariant

pub returns : goal.returns
returns c = pairs_done _ c.args.digits.now c.loop-i.bytes c.loop-i.i (omega arith) (omega arith) c.loop-i.invariant
