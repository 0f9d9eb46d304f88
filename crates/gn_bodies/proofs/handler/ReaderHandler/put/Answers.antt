use Rattle.std.proofs.Common.{◌≡◌, ◌∙◌, ap, refl}
use Rattle.gn_bodies.specs.Admitting.{Admitting}
use Rattle.gn_bodies.specs.Events.{connection_of, link_events}
use Rattle.gn_bodies.proofs.EventLemmas.{connection-route, link_events-route, number-route}
use Rattle.gn_bodies.proofs.JobLemmas.{settled_put, settled_routed}
use Rattle.gn_bodies.proofs.handler.ReaderHandler.put.Goals as goal

pub returns-in_default-clause-link : goal.returns-in_default-clause-link
returns-in_default-clause-link g c = record {
  numbers = (ap (λ v. v.actor.number) c.self.view_is, ap (λ w. w.number) c.in_default.ensures ∙ ap (λ v. v.intake.number) c.self.view_is);
  connection = λ d was. ap (λ v. connection_of v.actor) c.self.view_is ∙ was;
  events = ap (λ v. link_events v.actor) c.self.view_is;
}

pub returns-in_default-clause-settled : goal.returns-in_default-clause-settled
returns-in_default-clause-settled g c =
    let before : Admitting _ = record { actor = c.self.inside.caller; intake = c.self.inside.intake; is_refused = c.self.inside.is_refused } in
    let after : Admitting _ = record before { intake = c.put.new.self } in
    λ jobs is. settled_put jobs c.args.job c.args.self.now before after c.self.view_is is refl refl (ap (λ w. w.jobs) c.in_default.ensures)

pub returns-in-Ok-clause-link : goal.returns-in-Ok-clause-link
returns-in-Ok-clause-link g c = record {
  numbers = (number-route c.back.inside.ticket c.self.inside.caller c.route.new.self c.in-Ok.ensures ∙ ap (λ v. v.actor.number) c.self.view_is, ap (λ w. w.number) c.in-Err.ensures.1 ∙ ap (λ v. v.intake.number) c.self.view_is);
  connection = λ d was. connection-route c.back.inside.ticket c.self.inside.caller c.route.new.self c.in-Ok.ensures d (ap (λ v. connection_of v.actor) c.self.view_is ∙ was);
  events = link_events-route c.back.inside.ticket c.self.inside.caller c.route.new.self c.in-Ok.ensures ∙ ap (λ v. link_events v.actor) c.self.view_is;
}

pub returns-in-Ok-clause-settled : goal.returns-in-Ok-clause-settled
returns-in-Ok-clause-settled g c =
    let before : Admitting _ = record { actor = c.self.inside.caller; intake = c.self.inside.intake; is_refused = c.self.inside.is_refused } in
    let after : Admitting _ = record before { actor = c.route.new.self; intake = c.put.new.self } in
    let ticket : c.back.inside.ticket ≡ c.args.job.ticket = ap (λ job. job.ticket) (c.back.view_is ∙ c.in-Err.ensures.0) in
    λ jobs is. settled_routed jobs c.args.job c.back.inside.ticket c.args.self.now before after c.self.view_is ticket is c.in-Ok.ensures refl c.in-Err.ensures.1

pub returns-in-Err-route-clause-link : goal.returns-in-Err-route-clause-link
returns-in-Err-route-clause-link g c = record {
  numbers = (ap (λ w. w.number) c.in-Err-route.ensures ∙ ap (λ v. v.actor.number) c.self.view_is, ap (λ w. w.number) c.in-Err.ensures.1 ∙ ap (λ v. v.intake.number) c.self.view_is);
  connection = λ d was. ap connection_of c.in-Err-route.ensures ∙ ap (λ v. connection_of v.actor) c.self.view_is ∙ was;
  events = ap link_events c.in-Err-route.ensures ∙ ap (λ v. link_events v.actor) c.self.view_is;
}

pub returns-in-Err-route-clause-settled : goal.returns-in-Err-route-clause-settled
returns-in-Err-route-clause-settled g c = λ jobs is no. absurd (cc)
