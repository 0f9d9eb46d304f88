use Rattle.gn_metrics.proofs.PageLemmas.{row_written}
use Rattle.gn_metrics.proofs.page.push_row.Goals as goal

pub returns : goal.returns
returns g c =
    row_written c.extend_from_slice.result c.args.out.now.items c.push_pieces.new.out.items c.push_decimal.new.out.items
    c.extend_from_slice.new.self.items c.args.row.now c.in_ok-push_pieces.ensures c.in_ok-push_decimal.ensures c.extend_from_slice.ensures.items
