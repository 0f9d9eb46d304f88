use Rattle.gn_text.proofs.KeptLemmas.{items_more}
use Rattle.gn_show.specs.Kept.{placed, seen}
use Rattle.gn_show.specs.Rows.{send_line}
use Rattle.gn_show.proofs.rows.push_sends.Goals as goal

pub loop-sending-preserved : goal.loop-sending-preserved
loop-sending-preserved c =
    items_more (send_line (seen c.args.shown.now.subject) (placed c.args.shown.now.moment) c.args.shown.now.step.now) c.args.rows.now c.loop-sending.rows c.push_send.new.rows c.args.sends.now
    c.loop-sending.sending-index c.sending-item.result _ c.loop-sending-test.true c.sending-item.is c.loop-sending.invariant c.in_ok-push_send.ensures
