use Rattle.gn_witness.proofs.PacketLemmas.{sent_at}
use Rattle.gn_witness.proofs.packets.was_sent.Goals as goal

pub returns-then-sends_key : goal.returns-then-sends_key
returns-then-sends_key g c = λ _.
    sent_at c.args.steps.now c.loop-step.step-index c.step-item.result c.args.key.now c.loop-step-test.true c.step-item.is (c.sends_key.ensures c.if-sends_key.true)
