use Rattle.std.proofs.Common.{◌+◌, ap, refl, arith, map}
use Rattle.gn_rules.specs.declared.event.Event.TheVariants.{Route}
use Rattle.gn_hub.proofs.ProgressLemmas.{ended, later, one_more, route_at, routes_below, routes_within, stopped}
use Rattle.gn_hub.proofs.held.Held.route_all.Goals as goal

pub loop-job-init : goal.loop-job-init
loop-job-init g c = record { done = refl; receipts = refl }

pub loop-job-preserved : goal.loop-job-preserved
loop-job-preserved g c =
    let was = c.loop-job.invariant in
    record {
      done = ap (λ n. n + 1) was.done;
      receipts = one_more (map (λ j. Route j.0) c.args.jobs.now) c.loop-job.job-index c.loop-job.done (Route c.job-item.result.0) c.args.me.now c.loop-job.me c.route_one.new.me was.done (routes_below _ c.args.jobs.now c.loop-job.job-index c.loop-job-test.true) (route_at c.args.jobs.now c.loop-job.job-index c.job-item.result c.loop-job-test.true c.job-item.is) was.receipts c.in_default.ensures.answer;
    }

pub returns-then-not-has_room : goal.returns-then-not-has_room
returns-then-not-has_room g c =
    let was = c.loop-job.invariant in
    record { made = ended (map (λ j. Route j.0) c.args.jobs.now) (record { done = c.loop-job.done; refusal = _ }) c.args.me.now c.loop-job.me refl (routes_within _ c.args.jobs.now c.loop-job.done (omega arith)) (later c.loop-job.done c.has_room.result c.has_room.ensures c.if-not-has_room.true) was.receipts }

pub returns-in-Err : goal.returns-in-Err
returns-in-Err g c =
    let was = c.loop-job.invariant in
    record { made = stopped (map (λ j. Route j.0) c.args.jobs.now) (record { done = c.loop-job.done; refusal = _ }) c.loop-job.job-index (Route c.job-item.result.0) c.in-Err.refusal c.args.me.now c.loop-job.me c.route_one.new.me was.done refl (routes_below _ c.args.jobs.now c.loop-job.job-index c.loop-job-test.true) (route_at c.args.jobs.now c.loop-job.job-index c.job-item.result c.loop-job-test.true c.job-item.is) was.receipts c.in-Err.ensures.answer }

pub returns-after-loop-job : goal.returns-after-loop-job
returns-after-loop-job g c =
    let was = c.loop-job.invariant in
    record { made = ended (map (λ j. Route j.0) c.args.jobs.now) (record { done = c.loop-job.done; refusal = _ }) c.args.me.now c.loop-job.me refl (routes_within _ c.args.jobs.now c.loop-job.done (omega arith)) (omega arith) was.receipts }
