use Rattle.std.proofs.Common.{[], ◌∷◌, ◌++◌, ◌∙◌, ap, refl, subst, Option}
use Rattle.gn_rules.specs.declared.event.Event.TheVariants.{Admit}
use Rattle.gn_stage.specs.Jobs.{Queued}
use Rattle.gn_bodies.specs.Admitting.{Admitting, HasAdmitted}
use Rattle.gn_bodies.specs.Events.{connection_of, link_events}
use Rattle.gn_bodies.proofs.EventLemmas.{admitted_connection, admitted_events, admitted_number, never_not_live, on_ok_any}
use Rattle.gn_bodies.proofs.JobLemmas.{away_settled, owed}
use Rattle.gn_bodies.proofs.handler.ReaderHandler.admit.Goals as goal

pub returns-in-Ok-Some-clause-goes_on : goal.returns-in-Ok-Some-clause-goes_on
returns-in-Ok-Some-clause-goes_on g c =
    let before : Admitting _ = record { actor = c.self.inside.caller; intake = c.self.inside.intake; is_refused = c.self.inside.is_refused } in
    let after : Admitting _ = record before { actor = c.admit.new.self } in
    let has = subst (λ (job : Option Queued). HasAdmitted c.args.c c.args.descriptor job c.self.inside.caller c.admit.new.self) c.in-Ok-Some.field-0-is c.in-Ok-Some.ensures in
    record {
      numbers = (c.put.ensures.link.numbers.0 ∙ admitted_number c.args.c c.args.descriptor _ _ _ c.in-Ok-Some.ensures ∙ ap (λ v. v.actor.number) c.self.view_is, c.put.ensures.link.numbers.1 ∙ ap (λ v. v.intake.number) c.self.view_is);
      connection = λ d was. c.put.ensures.link.connection d (admitted_connection c.args.c c.args.descriptor _ _ _ c.in-Ok-Some.ensures d (ap (λ v. connection_of v.actor) c.self.view_is ∙ was));
      settled = λ jobs is. c.put.ensures.settled jobs (owed c.args.c c.args.descriptor c.in-Ok-Some.job jobs c.args.self.now before after c.self.view_is has refl refl is);
    }

pub returns-in-Ok-Some-clause-ok : goal.returns-in-Ok-Some-clause-ok
returns-in-Ok-Some-clause-ok g c =
    on_ok_any c.put.result _ (c.put.ensures.link.events ∙ admitted_events c.args.c c.args.descriptor _ _ _ c.in-Ok-Some.ensures ∙ ap (λ v. link_events v.actor ++ Admit c.args.c c.args.descriptor ∷ []) c.self.view_is)

pub returns-in-Ok-Some-clause-not_live : goal.returns-in-Ok-Some-clause-not_live
returns-in-Ok-Some-clause-not_live g c = never_not_live _ c.put.result c.put.ensures.stops

pub returns-in-Ok-None-clause-goes_on : goal.returns-in-Ok-None-clause-goes_on
returns-in-Ok-None-clause-goes_on g c =
    let before : Admitting _ = record { actor = c.self.inside.caller; intake = c.self.inside.intake; is_refused = c.self.inside.is_refused } in
    let after : Admitting _ = record before { actor = c.admit.new.self } in
    let away = subst (λ (job : Option Queued). HasAdmitted c.args.c c.args.descriptor job c.self.inside.caller c.admit.new.self) c.in-Ok-None.field-0-is c.in-Ok-None.ensures in
    record {
      numbers = (admitted_number c.args.c c.args.descriptor _ _ _ c.in-Ok-None.ensures ∙ ap (λ v. v.actor.number) c.self.view_is, ap (λ v. v.intake.number) c.self.view_is);
      connection = λ d was. admitted_connection c.args.c c.args.descriptor _ _ _ c.in-Ok-None.ensures d (ap (λ v. connection_of v.actor) c.self.view_is ∙ was);
      settled = λ jobs is. away_settled c.args.c c.args.descriptor jobs c.args.self.now before after c.self.view_is away refl refl is;
    }

pub returns-in-Ok-None-clause-ok : goal.returns-in-Ok-None-clause-ok
returns-in-Ok-None-clause-ok g c = admitted_events c.args.c c.args.descriptor _ _ _ c.in-Ok-None.ensures ∙ ap (λ v. link_events v.actor ++ Admit c.args.c c.args.descriptor ∷ []) c.self.view_is
