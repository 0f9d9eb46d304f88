use Rattle.gn_rules.proofs.RunLemmas.{runs_agree}
use Rattle.gn_rules.proofs.laws.runs_agree.Goals as goal

pub returns : goal.returns
returns g c = runs_agree _
