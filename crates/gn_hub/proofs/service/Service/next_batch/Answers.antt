use Rattle.std.proofs.Common.{◌∙◌, ap, refl, rules, Some, None}
use Rattle.gn_hub.specs.declared.next.Outgoing.TheVariants.{Closed}
use Rattle.gn_hub.specs.Receipts.{HasDrained, IsDrainedAt}
use Rattle.gn_hub.proofs.BatchLemmas.{drained_since, refused_since, same_since, taken_since}
use Rattle.gn_hub.proofs.KeptLemmas.{all_kept, kept_on, none_kept}
use Rattle.gn_hub.proofs.service.Service.next_batch.Goals as goal

pub returns-in-Some-2-clause-drained : goal.returns-in-Some-2-clause-drained
returns-in-Some-2-clause-drained g c =
    drained_since (HasDrained c.args.c) c.batch_answered-answer.result.answer c.in_ok-next.field-0 c.in-Some-2.next c.args.me.now c.loop.me c.batch_answered-answer.new.me c.in_ok-next.was c.in-Some-2.is c.loop.invariant.0 c.batch_answered-answer.ensures.drained

pub returns-in-Some-2-clause-idle : goal.returns-in-Some-2-clause-idle
returns-in-Some-2-clause-idle g c =
    drained_since (IsDrainedAt c.args.c c.batch_answered-answer.new.idle) c.batch_answered-answer.result.answer c.in_ok-next.field-0 c.in-Some-2.next c.args.me.now c.loop.me c.batch_answered-answer.new.me c.in_ok-next.was c.in-Some-2.is c.loop.invariant.0 c.batch_answered-answer.ensures.idle

pub returns-in-Some-2-clause-closed : goal.returns-in-Some-2-clause-closed
returns-in-Some-2-clause-closed g c =
    λ is. same_since c.batch_answered-answer.result.answer c.in_ok-next.field-0 (Some Closed) c.args.me.now c.loop.me c.batch_answered-answer.new.me c.in_ok-next.was (c.in-Some-2.is ∙ ap Some is) c.loop.invariant.0 c.batch_answered-answer.ensures.closed

pub loop-preserved : goal.loop-preserved
loop-preserved g c = (
  same_since c.batch_answered-answer.result.answer c.in_ok-next.field-0 None c.args.me.now c.loop.me c.batch_answered-answer.new.me c.in_ok-next.was c.in_default.is c.loop.invariant.0 c.batch_answered-answer.ensures.later,
  kept_on _ _ _ _ _ _ c.loop.invariant.1 c.batch_answered-answer.ensures.kept,
)

pub returns-in-Some-2-clause-packet : goal.returns-in-Some-2-clause-packet
returns-in-Some-2-clause-packet g c =
    taken_since c.batch_answered-answer.result.answer c.in_ok-next.field-0 c.in-Some-2.next c.args.batch c.args.c c.args.me.now c.loop.me c.batch_answered-answer.new.me c.in_ok-next.was c.in-Some-2.is c.loop.invariant.0 c.batch_answered-answer.ensures.packet

pub returns-in_err-next-clause-refused : goal.returns-in_err-next-clause-refused
returns-in_err-next-clause-refused g c =
    let kept = refused_since c.batch_answered-answer.result.answer c.in_err-next.field-0.0 c.args.me.now c.loop.me c.batch_answered-answer.new.me c.in_err-next.was c.loop.invariant.0 c.batch_answered-answer.ensures.refused in
    search rules

pub loop-init : goal.loop-init
loop-init g c = (refl, none_kept _ _ _ _ c.make_room.ensures refl)

pub returns-in-Some-2-clause-kept : goal.returns-in-Some-2-clause-kept
returns-in-Some-2-clause-kept g c = all_kept _ _ _ (kept_on _ _ _ _ _ _ c.loop.invariant.1 c.batch_answered-answer.ensures.kept)

pub returns-in_err-next-clause-kept : goal.returns-in_err-next-clause-kept
returns-in_err-next-clause-kept g c = all_kept _ _ _ (kept_on _ _ _ _ _ _ c.loop.invariant.1 c.batch_answered-answer.ensures.kept)
