use Rattle.gn_metrics.specs.Page.{row_text}
use Rattle.gn_metrics.proofs.PageLemmas.{four_texts}
use Rattle.gn_metrics.proofs.page.totals.Goals as goal

pub returns : goal.returns
returns c =
    four_texts row_text c.total.result c.total-2.result c.total-3.result c.total-4.result _ _ _ _ c.total.ensures c.total-2.ensures c.total-3.ensures
    c.total-4.ensures
