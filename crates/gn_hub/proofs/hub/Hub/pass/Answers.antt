use Rattle.std.proofs.Common.{rules, ap, ◌∙◌, ◌++◌, ◌∷◌, [], sym}
use Rattle.gn_rules.specs.declared.event.Event.TheVariants.{Route}
use Rattle.gn_rules.specs.Answer.{checked_answer}
use Rattle.gn_actors.specs.ActorState.{with_receipt}
use Rattle.gn_actors.proofs.LastLemmas.{last_is}
use Rattle.gn_hub.specs.HubState.{past_of}
use Rattle.gn_hub.proofs.StepLemmas.{route_fits}
use Rattle.gn_hub.proofs.hub.Hub.pass.Goals as goal

pub record_route-requires : goal.record_route-requires
record_route-requires g c =
    let h = c.args.self.now in
    let fits = c.checked_answers_fit.ensures h.settings (past_of h) c.args.ticket c.args.checked.now in
    let (reply, answered, stepped) = c.in_ok-told.ensures.step in
    let before = c.self.inside.annals in (
      c.args.ticket,
      reply,
      record {
        step = stepped ∙ ap (λ steps. steps ++ record { actor = c.number.result; event = Route c.args.ticket; reply = reply } ∷ []) (sym c.self.invariant)
            ∙ ap (λ n. before ++ record { actor = n; event = Route c.args.ticket; reply = reply } ∷ []) c.number.ensures;
        fits = route_fits (checked_answer h.settings (past_of h) c.args.ticket c.args.checked.now) c.args.ticket reply fits (rw (← c.self.view_is) answered);
      },
    )

pub returns-clause-made : goal.returns-clause-made
returns-clause-made g c =
    let (reply, answered, stepped) = c.in_ok-told.ensures.step in (
      reply,
      rw (← c.self.view_is) answered,
      search rules,
      c.record_route.ensures.actor ∙ ap (λ r. with_receipt c.args.me.now r) (rw (← c.self.view_is) (last_is _ _ _ _ _ stepped)),
    )

pub returns-clause-told : goal.returns-clause-told
returns-clause-told g c = rw (← c.self.view_is) c.in_ok-told.ensures.told
