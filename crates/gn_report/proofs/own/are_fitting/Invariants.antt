use Rattle.std.proofs.Common.{◌≡◌, ◌<◌, ℕ, drop, get_or}
use Rattle.gn_laws.specs.Owners.{indices_ascend}
use Rattle.gn_report.specs.Actors.{Stands}
use Rattle.gn_report.proofs.own.are_fitting.Given as goal

abbrev pub invariant-loop-receipt : goal.invariant-loop-receipt
invariant-loop-receipt g l = record {
  ascend : indices_ascend 0 l.receipts ≡ indices_ascend l.low (drop l.receipt-index l.receipts);
  stand : (j : ℕ) (r : _) → j < l.receipt-index → Stands l.steps l.actor (get_or l.receipts j r);
}
