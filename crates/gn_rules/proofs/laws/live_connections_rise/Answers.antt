use Rattle.gn_rules.proofs.LiveLemmas.{live_connections_rise}
use Rattle.gn_rules.proofs.laws.live_connections_rise.Goals as goal

pub returns : goal.returns
returns g c = live_connections_rise _
