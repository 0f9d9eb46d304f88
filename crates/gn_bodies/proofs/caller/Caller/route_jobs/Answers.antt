use Rattle.std.proofs.Common.{◌≡◌, ◌-◌, ◌∙◌, ◌++◌, ap, append-nil, arith, drop, length, refl, sym, take}
use Rattle.std.proofs.lemmas.List.{take_all, take_rest}
use Rattle.std.proofs.lemmas.Result.{on_ok_weaker}
use Rattle.std.proofs.lemmas.Grind.{common_steps}
use Rattle.gn_bodies.specs.Events.{events_of}
use Rattle.gn_bodies.specs.Jobs.{routes_by}
use Rattle.gn_bodies.proofs.RouteLemmas.{routed_on, when_ok}
use Rattle.gn_bodies.proofs.caller.Caller.route_jobs.Goals as goal

pub loop-at-init : goal.loop-at-init
loop-at-init g c = record { within = omega arith; number = refl; routes = refl; each = sym (append-nil (events_of c.args.self.now)) }

pub loop-at-preserved-in-Ok : goal.loop-at-preserved-in-Ok
loop-at-preserved-in-Ok g c =
    let was = c.loop-at.invariant in
    let rest : take (length c.args.jobs.now - c.loop-at.at) (drop c.loop-at.at c.args.jobs.now) ≡ drop c.loop-at.at c.args.jobs.now = take_rest c.args.jobs.now c.loop-at.at in
    let some = c.route_some-count.ensures.some in
    let long : length (take (length c.args.jobs.now - c.loop-at.at) (drop c.loop-at.at c.args.jobs.now)) ≡ length c.args.jobs.now - c.loop-at.at = grind (arith, common_steps) in
    record {
      within = omega arith;
      number = c.route_some-count.ensures.number ∙ was.number;
      routes = c.route_some-count.ensures.routes ∙ was.routes;
      each = routed_on c.loop-at.end c.args.jobs.now (take (length c.args.jobs.now - c.loop-at.at) (drop c.loop-at.at c.args.jobs.now)) c.loop-at.at c.route_some-count.result.0 (events_of c.args.self.now) c.loop-at.self c.route_some-count.new.self rest
          (when_ok c.route_some-count.result.1 _ c.in-Ok.is c.route_some-count.ensures.each) was.each;
    }

pub loop-at-preserved : goal.loop-at-preserved
loop-at-preserved g c =
    let was = c.loop-at.invariant in
    let some = c.route_some-count.ensures.some in
    let long : length (take (length c.args.jobs.now - c.loop-at.at) (drop c.loop-at.at c.args.jobs.now)) ≡ length c.args.jobs.now - c.loop-at.at = grind (arith, common_steps) in
    record {
      within = omega arith;
      number = c.route_some-count.ensures.number ∙ was.number;
      routes = c.route_some-count.ensures.routes ∙ was.routes;
      each = tt;
    }

pub returns-clause-each : goal.returns-clause-each
returns-clause-each g c =
    let was = c.loop-at.invariant in
    on_ok_weaker c.loop-at.end (λ before. before ∙ ap (λ w. events_of c.args.self.now ++ routes_by w) (take_all c.loop-at.at c.args.jobs.now (omega arith))) was.each
