use Rattle.std.proofs.Common.{◌∙◌, ap, refl, rules, subst, sym}
use Rattle.gn_table_router.specs.Sent.{CanSend, sent}
use Rattle.gn_table_router.proofs.SendableLemmas.{sending_done, sending_first, sending_more}
use Rattle.gn_table_router.proofs.follow.queue_all.Goals as goal

pub loop-sending-init : goal.loop-sending-init
loop-sending-init g c = record {
  can = subst (λ xs. CanSend xs c.args.neighbours.now) (sym c.into_iter-sending-iterator.ensures.into_iter_gives.0) c.requires;
  rest = refl;
  counted = search rules;
}

pub loop-sending-preserved : goal.loop-sending-preserved
loop-sending-preserved g c =
    sending_more _ c.in-Some.sending _ _ _ _ _ _ _ c.in-Some.ensures.steps.0 c.in-Some.ensures.steps.1 c.queue_one-near.ensures c.loop-sending.invariant

pub queue_one-near-requires : goal.queue_one-near-requires
queue_one-near-requires g c = sending_first _ c.in-Some.sending _ _ _ _ _ c.in-Some.ensures.steps.0 c.loop-sending.invariant

pub returns : goal.returns
returns g c =
    sending_done _ _ _ _ _ c.in-None.ensures.steps.0 c.loop-sending.invariant
    ∙ ap (λ xs. sent xs c.args.neighbours.now) c.into_iter-sending-iterator.ensures.into_iter_gives.0
