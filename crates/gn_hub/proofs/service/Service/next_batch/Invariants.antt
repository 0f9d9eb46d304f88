use Rattle.std.proofs.Common.{◌≡◌, []}
use Rattle.gn_hub.specs.Receipts.{AreKept}
use Rattle.gn_hub.proofs.service.Service.next_batch.Given as goal

abbrev pub invariant-loop : goal.invariant-loop
invariant-loop g l = (l.me ≡ l.initial.me) × AreKept [] l.kept.items l.initial.me l.me
