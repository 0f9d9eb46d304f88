use Rattle.gn_paths.proofs.PushLemmas.{pushes_go_back}
use Rattle.gn_paths.proofs.paths.pushes_go_back.Goals as goal

pub returns : goal.returns
returns g c = pushes_go_back _
