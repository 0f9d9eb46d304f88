use Rattle.std.proofs.Common.{refl}
use Rattle.gn_metrics.specs.Page.{row_text}
use Rattle.gn_text.proofs.KeptLemmas.{items_done, items_more}
use Rattle.gn_metrics.proofs.page.push_rows.Goals as goal

pub loop-row-preserved : goal.loop-row-preserved
loop-row-preserved g c =
    items_more row_text c.args.out.now.items c.loop-row.out.items c.push_row.new.out.items c.args.rows.now c.loop-row.row-index _ _
    c.loop-row-test.true refl c.loop-row.invariant c.in_ok-push_row.ensures

pub returns : goal.returns
returns g c = items_done row_text c.args.out.now.items c.loop-row.out.items c.args.rows.now c.loop-row.row-index c.loop-row-test.false c.loop-row.invariant
