use Rattle.gn_rules.proofs.RunLemmas.{runs_stay_legal}
use Rattle.gn_rules.proofs.laws.runs_stay_legal.Goals as goal

pub returns : goal.returns
returns g c = runs_stay_legal _
