use Rattle.std.proofs.Common.{◌≡◌, ℕ, List, subst}
use Rattle.std.specs.Prelude.{OnOk}
use Rattle.gn_show.specs.Kept.{placed, seen}
use Rattle.gn_show.proofs.RowLemmas.{lines_routed}
use Rattle.gn_show.proofs.rows.push_lines.Goals as goal

pub returns-in-Routed : goal.returns-in-Routed
returns-in-Routed c =
    subst (λ (lines : List ℕ). OnOk c.push_routed.result (c.push_routed.new.rows ≡ lines))
    (lines_routed c.args.rows.now (seen c.args.shown.now.subject) (placed c.args.shown.now.moment) c.args.shown.now.step.now c.in-Routed.sends c.as_slice.result.now c.in-Routed.local c.in-Routed.is c.as_slice.ensures)
    c.push_routed.ensures
