use Rattle.gn_paths.proofs.NetworkLemmas.{answers_follow}
use Rattle.gn_paths.proofs.networks.answers_follow.Goals as goal

pub returns : goal.returns
returns g c = answers_follow _
