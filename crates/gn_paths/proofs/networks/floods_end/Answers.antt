use Rattle.gn_paths.proofs.FloodLemmas.{floods_end}
use Rattle.gn_paths.proofs.networks.floods_end.Goals as goal

pub returns : goal.returns
returns g c = floods_end _
