use Rattle.gn_witness.proofs.LinkLemmas.{taken_at}
use Rattle.gn_witness.proofs.links.was_taken.Goals as goal

pub returns-then-is_taken : goal.returns-then-is_taken
returns-then-is_taken g c = λ _.
    taken_at c.args.steps.now c.loop-step.step-index c.step-item.result c.loop-step-test.true c.step-item.is c.args.c c.args.packet.now
    (c.is_taken.ensures c.if-is_taken.true)
