use Rattle.std.proofs.Common.{◌≡◌, ◌++◌, drop, map}
use Rattle.gn_words.specs.ConfigTexts.{rows_lines}
use Rattle.gn_words.specs.Sayings.{row_seen}
use Rattle.gn_words.proofs.said.push_rows.Given as goal

abbrev pub invariant-loop-row : goal.invariant-loop-row
invariant-loop-row l = l.out.items ++ rows_lines (map row_seen (drop l.row-index l.rows)) ≡ l.fn.out.items ++ rows_lines (map row_seen l.rows)
