use Rattle.std.proofs.Common.{ap, codes, ◌∙◌, ℕ}
use Rattle.gn_metrics.specs.Page.{gauge_kind, number_text, row_text}
use Rattle.gn_metrics.proofs.PageLemmas.{four_texts}
use Rattle.gn_metrics.proofs.page.gauges.Goals as goal

pub returns : goal.returns
returns c =
    let most = ap (λ (n : ℕ). number_text (codes "steps_limit") gauge_kind (codes "The most steps that the history may have.") n) c.from.ensures in
    four_texts row_text c.gauge.result c.gauge-2.result c.gauge-3.result c.gauge-4.result _ _ _ _ c.gauge.ensures c.gauge-2.ensures
    (c.gauge-3.ensures ∙ most) c.gauge-4.ensures
