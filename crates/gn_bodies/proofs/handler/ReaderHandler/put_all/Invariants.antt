use Rattle.std.proofs.Common.{◌≡◌, List}
use Rattle.std.specs.Vec.Iter.{into_iter_items}
use Rattle.gn_stage.specs.Jobs.{Queued}
use Rattle.gn_bodies.specs.Admitting.{HasSameNumbers, IsOwing, KeepsConnection}
use Rattle.gn_bodies.specs.Events.{link_events}
use Rattle.gn_bodies.proofs.handler.ReaderHandler.put_all.Given as goal

abbrev pub invariant-loop-job : goal.invariant-loop-job
invariant-loop-job g l = record {
  numbers : HasSameNumbers l.initial.self l.self;
  connection : KeepsConnection l.initial.self.actor l.self.actor;
  events : link_events l.self.actor ≡ link_events l.initial.self.actor;
  owing : (before : List Queued) → IsOwing before (into_iter_items l.initial.job-iterator) l.initial.self → IsOwing before (into_iter_items l.job-iterator) l.self;
}
