use Rattle.std.proofs.Common.{◌+◌, ap, refl, arith}
use Rattle.gn_hub.proofs.KeptLemmas.{kept_on, none_kept}
use Rattle.gn_hub.proofs.ProgressLemmas.{ended, later, one_more, stopped}
use Rattle.gn_hub.proofs.held.Held.call_all.Goals as goal

pub loop-event-init : goal.loop-event-init
loop-event-init g c = record { done = refl; receipts = refl; kept = none_kept _ _ _ _ refl refl }

pub loop-event-preserved : goal.loop-event-preserved
loop-event-preserved g c =
    let was = c.loop-event.invariant in
    record {
      done = ap (λ n. n + 1) was.done;
      receipts = one_more c.args.events.now c.loop-event.event-index c.loop-event.done c.event-item.result c.args.me.now c.loop-event.me c.call_one.new.me was.done c.loop-event-test.true c.event-item.is was.receipts c.in_default.ensures.answer;
      kept = kept_on _ _ _ _ _ _ was.kept c.call_one.ensures.kept;
    }

pub returns-then-not-has_room-clause-made : goal.returns-then-not-has_room-clause-made
returns-then-not-has_room-clause-made g c =
    let was = c.loop-event.invariant in
    ended c.args.events.now (record { done = c.loop-event.done; refusal = _ }) c.args.me.now c.loop-event.me refl (omega arith) (later c.loop-event.done c.has_room.result c.has_room.ensures c.if-not-has_room.true) was.receipts

pub returns-in-Err-clause-made : goal.returns-in-Err-clause-made
returns-in-Err-clause-made g c =
    let was = c.loop-event.invariant in
    stopped c.args.events.now (record { done = c.loop-event.done; refusal = _ }) c.loop-event.event-index c.event-item.result c.in-Err.refusal c.args.me.now c.loop-event.me c.call_one.new.me was.done refl c.loop-event-test.true c.event-item.is was.receipts c.in-Err.ensures.answer

pub returns-in-Err-clause-kept : goal.returns-in-Err-clause-kept
returns-in-Err-clause-kept g c = kept_on _ _ _ _ _ _ c.loop-event.invariant.kept c.call_one.ensures.kept

pub returns-after-loop-event-clause-made : goal.returns-after-loop-event-clause-made
returns-after-loop-event-clause-made g c =
    let was = c.loop-event.invariant in
    ended c.args.events.now (record { done = c.loop-event.done; refusal = _ }) c.args.me.now c.loop-event.me refl (omega arith) (omega arith) was.receipts
