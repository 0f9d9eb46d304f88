use Rattle.gn_paths.proofs.PathLemmas.{life_falls}
use Rattle.gn_paths.proofs.paths.life_falls.Goals as goal

pub returns : goal.returns
returns g c = life_falls _
