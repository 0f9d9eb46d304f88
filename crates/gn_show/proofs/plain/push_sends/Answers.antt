use Rattle.gn_show.proofs.PieceLemmas.{one_more}
use Rattle.gn_show.specs.Plain.{sending_words}
use Rattle.std.proofs.Common.{[]}
use Rattle.gn_show.proofs.plain.push_sends.Goals as goal

pub loop-sending-preserved : goal.loop-sending-preserved
loop-sending-preserved c =
    one_more sending_words [] c.args.sends.now c.loop-sending.sending-index c.sending-item.result _ c.loop-sending-test.true c.sending-item.is c.loop-sending.invariant
    c.push_sending.ensures
