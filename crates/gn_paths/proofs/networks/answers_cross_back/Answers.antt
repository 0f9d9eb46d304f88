use Rattle.gn_paths.proofs.NetworkLemmas.{answers_cross_back}
use Rattle.gn_paths.proofs.networks.answers_cross_back.Goals as goal

pub returns : goal.returns
returns g c = answers_cross_back _
