use Rattle.std.proofs.Common.{◌≡◌, ◌++◌, false, vec_items}
use Rattle.std.specs.Vec.Iter.{into_iter_items}
use Rattle.gn_bodies.specs.Events.{events_of, link_events}
use Rattle.gn_bodies.specs.Jobs.{routes_of}
use Rattle.gn_threads.proofs.house.route_left.Given as goal

abbrev pub invariant-loop-job : goal.invariant-loop-job
invariant-loop-job g l = record {
  routed : l.is_refused ≡ false → events_of l.me ++ routes_of (into_iter_items l.job-iterator) ≡ events_of l.initial.me ++ routes_of (vec_items l.fn.jobs);
  alone : (l.me.number ≡ l.initial.me.number) × (link_events l.me ≡ link_events l.initial.me);
}
