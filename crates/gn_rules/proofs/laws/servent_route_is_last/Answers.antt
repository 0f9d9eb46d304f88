use Rattle.gn_rules.proofs.ServentLemmas.{servent_route_is_last}
use Rattle.gn_rules.proofs.laws.servent_route_is_last.Goals as goal

pub returns : goal.returns
returns g c = servent_route_is_last _
