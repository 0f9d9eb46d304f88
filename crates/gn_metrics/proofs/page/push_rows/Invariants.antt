use Rattle.std.proofs.Common.{◌≡◌, ◌++◌, take}
use Rattle.gn_metrics.specs.Page.{rows_text}
use Rattle.gn_metrics.proofs.page.push_rows.Given as goal

abbrev pub invariant-loop-row : goal.invariant-loop-row
invariant-loop-row g l = l.out.items ≡ l.fn.out.items ++ rows_text (take l.row-index l.rows)
