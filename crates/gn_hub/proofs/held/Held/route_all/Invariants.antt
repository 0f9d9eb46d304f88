use Rattle.std.proofs.Common.{◌≡◌, take, map}
use Rattle.gn_rules.specs.declared.event.Event.TheVariants.{Route}
use Rattle.gn_hub.specs.Receipts.{HasReceipts}
use Rattle.gn_hub.proofs.held.Held.route_all.Given as goal

abbrev pub invariant-loop-job : goal.invariant-loop-job
invariant-loop-job g l = record {
  done : l.done ≡ l.job-index;
  receipts : HasReceipts (take l.done (map (λ job. Route job.0) l.jobs)) l.initial.me l.me;
}
