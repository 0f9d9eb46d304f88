use Rattle.std.proofs.Common.{◌≡◌, vec_items}
use Rattle.gn_stage.specs.Ends.{End}
use Rattle.gn_stage.specs.Jobs.{Queued}
use Rattle.gn_bodies.specs.Jobs.{HasTakenJobs}
use Rattle.gn_bodies.proofs.worker.WorkerHandler.add_waiting.Given as goal

abbrev pub invariant-loop : goal.invariant-loop
invariant-loop g l = record {
  same : (l.self.caller ≡ l.initial.self.caller) × (l.self.outlet.number ≡ l.initial.self.outlet.number);
  taken : (before : End Queued) → HasTakenJobs before l.initial.self.outlet (vec_items l.initial.self.jobs) → HasTakenJobs before l.self.outlet (vec_items l.self.jobs);
}
