use Rattle.gn_paths.proofs.PathLemmas.{answers_go_back}
use Rattle.gn_paths.proofs.paths.answers_go_back.Goals as goal

pub returns : goal.returns
returns g c = answers_go_back _
