use Rattle.std.proofs.Common.{◌≡◌, take}
use Rattle.gn_hub.specs.Receipts.{AreKept, HasReceipts}
use Rattle.gn_hub.proofs.held.Held.call_all.Given as goal

abbrev pub invariant-loop-event : goal.invariant-loop-event
invariant-loop-event g l = record {
  done : l.done ≡ l.event-index;
  receipts : HasReceipts (take l.done l.events) l.initial.me l.me;
  kept : AreKept l.initial.kept.items l.kept.items l.initial.me l.me;
}
