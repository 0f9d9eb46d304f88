use Rattle.gn_threads.proofs.FollowLemmas.{runs_add_up}
use Rattle.gn_threads.proofs.runs.runs_add_up.Goals as goal

pub returns : goal.returns
returns g c = runs_add_up _ _ _
