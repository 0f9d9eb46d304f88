use Rattle.std.proofs.Common.{◌∙◌, ap, reverse}
use Rattle.gn_rules.specs.Kept.{Kept}
use Rattle.gn_rules.specs.Statistics.{stats_of}
use Rattle.gn_table_router.proofs.store.TableStoreStore.stats.Goals as goal

pub returns : goal.returns
returns g c = c.self.invariant.stats_are ∙ ap (λ (kept : Kept _). stats_of (reverse kept.steps)) c.self.view_is
