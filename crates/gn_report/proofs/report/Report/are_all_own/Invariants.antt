use Rattle.std.proofs.Common.{◌≡◌, ◌<◌, ◌+◌, ℕ, [], length, get_or, take}
use Rattle.std.specs.List.{sum_by}
use Rattle.gn_laws.specs.Owners.{AreFitting}
use Rattle.gn_report.specs.Actors.{receipts_of}
use Rattle.gn_report.proofs.report.Report.are_all_own.Given as goal

abbrev pub invariant-loop-actor : goal.invariant-loop-actor
invariant-loop-actor g l = record {
  fits : (a : ℕ) → a < l.actor → AreFitting l.self.history.items a (get_or (receipts_of l.self) a []);
  sum : l.left + sum_by (λ receipts. length receipts) (take l.actor (receipts_of l.self)) ≡ length l.self.history.items;
}
