use Rattle.gn_paths.proofs.NetworkLemmas.{answers_came_back}
use Rattle.gn_paths.proofs.networks.answers_came_back.Goals as goal

pub returns : goal.returns
returns g c = answers_came_back _
