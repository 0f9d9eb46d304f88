use Rattle.std.proofs.Common.{◌≡◌, drop}
use Rattle.gn_report.proofs.ConnLemmas.{conn_made}
use Rattle.gn_report.proofs.events.conn_of.Given as goal

abbrev pub invariant-loop-r : goal.invariant-loop-r
invariant-loop-r g l = conn_made l.receipts ≡ conn_made (drop l.r-index l.receipts)
