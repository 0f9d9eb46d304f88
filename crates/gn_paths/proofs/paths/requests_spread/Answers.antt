use Rattle.gn_paths.proofs.SpreadLemmas.{requests_spread}
use Rattle.gn_paths.proofs.paths.requests_spread.Goals as goal

pub returns : goal.returns
returns g c = requests_spread _
