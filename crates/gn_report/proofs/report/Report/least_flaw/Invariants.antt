use Rattle.std.proofs.Common.{◌<◌, ℕ}
use Rattle.gn_report.specs.BodyEnds.{is_settled}
use Rattle.gn_report.specs.Flaw.{IsConfirmed}
use Rattle.gn_report.proofs.report.Report.least_flaw.Given as goal

abbrev pub invariant-loop-actor : goal.invariant-loop-actor
invariant-loop-actor g l = (a : ℕ) → a < l.actor → IsConfirmed (is_settled l.self.history.items) l.roles l.self a
