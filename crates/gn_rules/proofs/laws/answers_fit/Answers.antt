use Rattle.gn_rules.proofs.FitLemmas.{answers_fit}
use Rattle.gn_rules.proofs.laws.answers_fit.Goals as goal

pub returns : goal.returns
returns g c = answers_fit _
