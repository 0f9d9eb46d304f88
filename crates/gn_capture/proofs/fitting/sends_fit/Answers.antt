use Rattle.gn_capture.specs.RoundTrip.{IsSending}
use Rattle.gn_capture.proofs.FittingLemmas.{all_more, all_taken}
use Rattle.gn_capture.proofs.fitting.sends_fit.Goals as goal

pub loop-sending-preserved : goal.loop-sending-preserved
loop-sending-preserved g c =
    all_more IsSending c.args.sends.now c.loop-sending.sending-index c.sending-item.result c.loop-sending-test.true c.sending-item.is c.loop-sending.invariant c.sending_fits.ensures

pub returns : goal.returns
returns g c = all_taken IsSending c.args.sends.now c.loop-sending.sending-index c.loop-sending-test.false c.loop-sending.invariant
