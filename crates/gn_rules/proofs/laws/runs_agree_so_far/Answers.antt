use Rattle.gn_rules.proofs.RunLemmas.{runs_agree_so_far}
use Rattle.gn_rules.proofs.laws.runs_agree_so_far.Goals as goal

pub returns : goal.returns
returns g c = runs_agree_so_far _
