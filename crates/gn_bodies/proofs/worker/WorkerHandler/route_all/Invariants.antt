use Rattle.std.proofs.Common.{◌≡◌, ◌++◌, []}
use Rattle.std.specs.Prelude.{OnOk}
use Rattle.gn_bodies.specs.Events.{events_of, link_events}
use Rattle.gn_bodies.specs.Jobs.{routes_of}
use Rattle.gn_bodies.proofs.worker.WorkerHandler.route_all.Given as goal

abbrev pub invariant-loop : goal.invariant-loop
invariant-loop g l = record {
  number : l.self.caller.number ≡ l.initial.self.caller.number;
  home : l.self.outlet.number ≡ l.initial.self.outlet.number;
  routes : link_events l.self.caller ≡ [];
  each : OnOk l.end (routes_of l.self.outlet.jobs ≡ routes_of l.initial.self.outlet.jobs ++ events_of l.self.caller);
}
