use Rattle.std.proofs.Common.{◌∙◌, ap, reverse}
use Rattle.gn_rules.specs.Kept.{Kept}
use Rattle.gn_rules.specs.Statistics.{stats_of}
use Rattle.gn_search.proofs.search.SearchVecStepStore.stats.Goals as goal

pub returns : goal.returns
returns g c =
    c.stats_in.ensures
    ∙ ap (λ steps. stats_of (reverse steps)) c.deref.ensures.value
    ∙ ap (λ (kept : Kept _). stats_of (reverse kept.steps)) c.self.view_is
