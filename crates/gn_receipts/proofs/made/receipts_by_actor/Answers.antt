use Rattle.std.proofs.Common.{◌+◌, ap, map, vec_items}
use Rattle.gn_receipts.specs.Made.{receipt_list}
use Rattle.gn_receipts.proofs.MadeLemmas.{made_next}
use Rattle.gn_receipts.proofs.made.receipts_by_actor.Goals as goal

pub loop-step-preserved : goal.loop-step-preserved
loop-step-preserved g c = (
  ap (λ n. n + 1) c.loop-step.invariant.0,
  made_next c.args.actors c.loop-step.index c.loop-step.step-index c.args.steps.now c.step-item.result (map receipt_list (vec_items c.loop-step.all)) (map receipt_list (vec_items c.add.new.all)) c.loop-step-test.true c.step-item.is
      c.loop-step.invariant.0 c.loop-step.invariant.1 c.in_ok-add.ensures,
)
