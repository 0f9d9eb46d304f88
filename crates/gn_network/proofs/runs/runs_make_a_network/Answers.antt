use Rattle.gn_network.proofs.RunLemmas.{runs_make_a_network}
use Rattle.gn_network.proofs.runs.runs_make_a_network.Goals as goal

pub returns : goal.returns
returns g c = runs_make_a_network _ _ _
