use Rattle.std.proofs.Common.{◌∙◌, ap, reverse}
use Rattle.gn_rules.specs.Statistics.{stats_of}
use Rattle.gn_router.proofs.unfreed.UnfreedRouterCore.stats.Goals as goal

pub returns : goal.returns
returns g c = c.stats.ensures ∙ ap (λ router. stats_of (reverse (g.C.RouterCore.steps router))) c.deref.ensures
