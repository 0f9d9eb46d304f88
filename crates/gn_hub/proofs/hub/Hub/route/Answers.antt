use Rattle.std.proofs.Common.{rules, ap, ◌∙◌, ◌++◌, ◌∷◌, [], length, sym}
use Rattle.gn_rules.specs.declared.event.Event.TheVariants.{Route}
use Rattle.gn_actors.specs.ActorState.{with_receipt}
use Rattle.gn_hub.proofs.StepLemmas.{receipt_is}
use Rattle.gn_hub.proofs.hub.Hub.route.Goals as goal

pub record-requires : goal.record-requires
record-requires g c =
    let e = c.in_ok-receipt.ensures in
    let r = c.in_ok-receipt.receipt in
    let before = c.self.inside.annals in
    record {
      step = e.step ∙ ap (λ steps. steps ++ record { actor = c.number.result; event = Route c.args.ticket; reply = r.reply } ∷ []) (sym c.self.invariant)
          ∙ ap (λ n. before ++ record { actor = n; event = Route c.args.ticket; reply = r.reply } ∷ []) c.number.ensures
          ∙ ap (λ v. before ++ record { actor = c.args.me.now.number; event = v; reply = r.reply } ∷ []) (sym e.event);
      index = e.index ∙ ap length (sym c.self.invariant);
    }

pub returns-clause-made : goal.returns-clause-made
returns-clause-made g c =
    let e = c.in_ok-receipt.ensures in (
      c.in_ok-receipt.receipt.reply,
      rw (← c.self.view_is) e.answer,
      search rules,
      c.record.ensures.actor ∙ ap (λ r. with_receipt c.args.me.now r) (receipt_is c.in_ok-receipt.receipt _ _ (rw (← c.self.view_is) e.index) e.event),
    )

pub returns-clause-receipt : goal.returns-clause-receipt
returns-clause-receipt g c =
    let e = c.in_ok-receipt.ensures in
    (rw (← c.self.view_is) e.answer, e.event, c.record.ensures.actor)
