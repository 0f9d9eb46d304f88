use Rattle.std.proofs.Common.{ap}
use Rattle.gn_metrics.specs.Counting.{Standing}
use Rattle.gn_metrics.proofs.HistoryLemmas.{history_read}
use Rattle.gn_metrics.proofs.laws.history_is_counted.Goals as goal

pub returns : goal.returns
returns g c = λ s steps. ap (λ (t : Standing). t.counts) (history_read s steps)
