use Rattle.gn_rules.proofs.CounterLemmas.{counters_count}
use Rattle.gn_rules.proofs.laws.counters_count.Goals as goal

pub returns : goal.returns
returns g c = counters_count _
