use Rattle.std.proofs.Common.{◌≡◌, ◌∙◌, ◌++◌, ap, refl, rules, vec_items}
use Rattle.gn_bodies.specs.Events.{events_of, link_events}
use Rattle.gn_bodies.specs.Jobs.{routes_by, routes_of}
use Rattle.gn_bodies.proofs.JobLemmas.{routes_none}
use Rattle.gn_bodies.proofs.ReadingLemmas.{none_done}
use Rattle.gn_bodies.proofs.RouteLemmas.{none_taken, routed_taken}
use Rattle.gn_bodies.proofs.worker.WorkerHandler.route_all.Goals as goal

pub loop-init : goal.loop-init
loop-init g c = record {
  number = refl;
  home = refl;
  routes = none_done c.args.self.now.caller c.requires.none;
  each = routes_none (routes_of c.args.self.now.outlet.jobs) c.args.self.now.caller c.requires.none;
}

pub loop-preserved : goal.loop-preserved
loop-preserved g c =
    let was = c.loop.invariant in
    let same : c.as_slice.result.now ≡ vec_items c.take_jobs.new.self.jobs = search rules in
    record {
      number = c.route_jobs.ensures.number ∙ ap (λ me. me.number) c.take_jobs.ensures.same.0 ∙ was.number;
      home = c.take_jobs.ensures.same.1 ∙ was.home;
      routes = c.route_jobs.ensures.routes ∙ ap link_events c.take_jobs.ensures.same.0 ∙ was.routes;
      each = routed_taken c.loop.end (routes_of c.args.self.now.outlet.jobs) (vec_items c.take_jobs.new.self.jobs) c.loop.self.outlet c.take_jobs.new.self.outlet c.loop.self.caller c.route_jobs.new.self c.in-Ok.ensures.taken (c.in_default-route_jobs.ensures.each ∙ ap (λ jobs. events_of c.take_jobs.new.self.caller ++ routes_by jobs) same ∙ ap (λ me. events_of me ++ routes_by (vec_items c.take_jobs.new.self.jobs)) c.take_jobs.ensures.same.0) was.each;
    }

pub loop-preserved-in-Err : goal.loop-preserved-in-Err
loop-preserved-in-Err g c =
    let was = c.loop.invariant in
    record {
      number = c.route_jobs.ensures.number ∙ ap (λ me. me.number) c.take_jobs.ensures.same.0 ∙ was.number;
      home = c.take_jobs.ensures.same.1 ∙ was.home;
      routes = c.route_jobs.ensures.routes ∙ ap link_events c.take_jobs.ensures.same.0 ∙ was.routes;
      each = tt;
    }

pub returns-then-not-any-clause-each : goal.returns-then-not-any-clause-each
returns-then-not-any-clause-each g c =
    rw c.take_jobs.ensures.same.0 (none_taken c.loop.end (routes_of c.args.self.now.outlet.jobs) (vec_items c.take_jobs.new.self.jobs) c.loop.self.outlet c.take_jobs.new.self.outlet c.loop.self.caller c.in-Ok.ensures.taken (c.in-Ok.ensures.none c.if-not-any.true) c.loop.invariant.each)

pub returns-then-is_stop-clause-same : goal.returns-then-is_stop-clause-same
returns-then-is_stop-clause-same g c =
    (c.route_jobs.ensures.number ∙ ap (λ me. me.number) c.take_jobs.ensures.same.0 ∙ c.loop.invariant.number, c.take_jobs.ensures.same.1 ∙ c.loop.invariant.home)

pub returns-then-is_stop-clause-routes : goal.returns-then-is_stop-clause-routes
returns-then-is_stop-clause-routes g c = c.route_jobs.ensures.routes ∙ ap link_events c.take_jobs.ensures.same.0 ∙ c.loop.invariant.routes
