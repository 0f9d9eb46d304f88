use Rattle.std.proofs.Common.{◌≡◌, ◌≤◌, ◌++◌, ◌-◌, length, take}
use Rattle.std.specs.Prelude.{OnOk}
use Rattle.gn_bodies.specs.Events.{events_of, link_events}
use Rattle.gn_bodies.specs.Jobs.{routes_by}
use Rattle.gn_bodies.proofs.caller.Caller.route_jobs.Given as goal

abbrev pub decreases-loop-at : goal.decreases-loop-at
decreases-loop-at g l = length l.jobs - l.at

abbrev pub invariant-loop-at : goal.invariant-loop-at
invariant-loop-at g l = record {
  within : l.at ≤ length l.jobs;
  number : l.self.number ≡ l.initial.self.number;
  routes : link_events l.self ≡ link_events l.initial.self;
  each : OnOk l.end (events_of l.self ≡ events_of l.initial.self ++ routes_by (take l.at l.jobs));
}
