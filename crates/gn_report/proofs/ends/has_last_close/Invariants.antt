use Rattle.std.proofs.Common.{◌≡◌, drop}
use Rattle.std.specs.List.{list_any}
use Rattle.gn_report.specs.BodyEnds.{is_settled}
use Rattle.gn_report.proofs.ComparedLemmas.{is_last_close}
use Rattle.gn_report.proofs.ends.has_last_close.Given as goal

abbrev pub invariant-loop-receipt : goal.invariant-loop-receipt
invariant-loop-receipt g l =
    list_any (λ r. is_last_close (is_settled l.report.history.items) l.roles l.report.history.items l.c r) l.own
    ≡ list_any (λ r. is_last_close (is_settled l.report.history.items) l.roles l.report.history.items l.c r) (drop l.receipt-index l.own)
