use Rattle.gn_rules.proofs.CounterLemmas.{counters_add_up}
use Rattle.gn_rules.proofs.laws.counters_add_up.Goals as goal

pub returns : goal.returns
returns g c = counters_add_up _
