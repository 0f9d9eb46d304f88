use Rattle.gn_metrics.proofs.PageLemmas.{gauges_of, three_parts, totals_of}
use Rattle.gn_metrics.proofs.page.push_page.Goals as goal

pub returns : goal.returns
returns g c =
    let look = c.args.look.now in
    three_parts c.push_rows-2.result c.args.out.now.items c.push_counts.new.out.items c.push_rows.new.out.items c.push_rows-2.new.out.items _ _ _ _ _
    c.in_ok-push_counts.ensures c.in_ok-push_rows.ensures (totals_of look c.totals.result c.steps.result c.totals.ensures c.steps.ensures)
    c.push_rows-2.ensures
    (gauges_of look c.gauges.result c.connections.result c.in_flight.result c.gauges.ensures c.connections.ensures c.in_flight.ensures)
