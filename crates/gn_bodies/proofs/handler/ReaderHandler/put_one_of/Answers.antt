use Rattle.std.proofs.Common.{◌∙◌, ap, refl}
use Rattle.gn_bodies.specs.Admitting.{Admitting}
use Rattle.gn_bodies.specs.Events.{connection_of, link_events}
use Rattle.gn_bodies.proofs.EventLemmas.{routed-connection, routed-events, routed-number}
use Rattle.gn_bodies.proofs.JobLemmas.{owing_put}
use Rattle.gn_bodies.proofs.handler.ReaderHandler.put_one_of.Goals as goal

pub returns-in_default-clause-link : goal.returns-in_default-clause-link
returns-in_default-clause-link g c = record {
  numbers = (ap (λ v. v.actor.number) c.self.view_is, ap (λ w. w.number) c.in_default.ensures ∙ ap (λ v. v.intake.number) c.self.view_is);
  connection = λ d was. ap (λ v. connection_of v.actor) c.self.view_is ∙ was;
  events = ap (λ v. link_events v.actor) c.self.view_is;
}

pub returns-in_default-clause-owing : goal.returns-in_default-clause-owing
returns-in_default-clause-owing g c =
    let before : Admitting _ = record { actor = c.self.inside.caller; intake = c.self.inside.intake; is_refused = c.self.inside.is_refused } in
    let after : Admitting _ = record before { intake = c.put.new.self } in
    λ jobs left is. owing_put jobs left c.args.job c.args.self.now before after c.self.view_is is refl refl (ap (λ w. w.jobs) c.in_default.ensures)

pub returns-clause-link : goal.returns-clause-link
returns-clause-link g c = record {
  numbers = (routed-number c.route.result c.back.inside.ticket c.self.inside.caller c.route.new.self c.route.ensures ∙ ap (λ v. v.actor.number) c.self.view_is, ap (λ w. w.number) c.in-Err.ensures.1 ∙ ap (λ v. v.intake.number) c.self.view_is);
  connection = λ d was. routed-connection c.route.result c.back.inside.ticket c.self.inside.caller c.route.new.self c.route.ensures d (ap (λ v. connection_of v.actor) c.self.view_is ∙ was);
  events = routed-events c.route.result c.back.inside.ticket c.self.inside.caller c.route.new.self c.route.ensures ∙ ap (λ v. link_events v.actor) c.self.view_is;
}
