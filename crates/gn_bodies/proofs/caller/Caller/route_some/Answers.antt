use Rattle.std.proofs.Common.{arith}
use Rattle.gn_bodies.proofs.RouteLemmas.{below_routes, routed_first, within_routes}
use Rattle.gn_bodies.proofs.caller.Caller.route_some.Goals as goal

pub returns-in-None-clause-number : goal.returns-in-None-clause-number
returns-in-None-clause-number g c = (routed_first c.args.jobs.now c.route_all-done.result c.args.self.now c.route_all-done.new.self c.route_all-done.ensures.made).number

pub returns-in-None-clause-routes : goal.returns-in-None-clause-routes
returns-in-None-clause-routes g c = (routed_first c.args.jobs.now c.route_all-done.result c.args.self.now c.route_all-done.new.self c.route_all-done.ensures.made).routes

pub returns-in-None-clause-some : goal.returns-in-None-clause-some
returns-in-None-clause-some g c =
    (c.route_all-done.ensures.made.some c.in-None.is, within_routes _ c.args.jobs.now _ c.route_all-done.ensures.made.within)

pub returns-in-None-clause-each : goal.returns-in-None-clause-each
returns-in-None-clause-each g c = (routed_first c.args.jobs.now c.route_all-done.result c.args.self.now c.route_all-done.new.self c.route_all-done.ensures.made).events

pub returns-in-Some-clause-number : goal.returns-in-Some-clause-number
returns-in-Some-clause-number g c = (routed_first c.args.jobs.now c.route_all-done.result c.args.self.now c.route_all-done.new.self c.route_all-done.ensures.made).number

pub returns-in-Some-clause-routes : goal.returns-in-Some-clause-routes
returns-in-Some-clause-routes g c = (routed_first c.args.jobs.now c.route_all-done.result c.args.self.now c.route_all-done.new.self c.route_all-done.ensures.made).routes

pub returns-in-Some-clause-some : goal.returns-in-Some-clause-some
returns-in-Some-clause-some g c =
    let below = below_routes _ c.args.jobs.now _ (c.route_all-done.ensures.made.refused c.in-Some.refusal c.in-Some.is).0 in
    (omega arith, omega arith)
