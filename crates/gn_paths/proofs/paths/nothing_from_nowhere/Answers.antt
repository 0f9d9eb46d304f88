use Rattle.gn_paths.proofs.OriginLemmas.{nothing_from_nowhere}
use Rattle.gn_paths.proofs.paths.nothing_from_nowhere.Goals as goal

pub returns : goal.returns
returns g c = nothing_from_nowhere _
