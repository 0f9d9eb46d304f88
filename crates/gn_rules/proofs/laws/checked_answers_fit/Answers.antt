use Rattle.gn_rules.proofs.FitLemmas.{checked_answers_fit}
use Rattle.gn_rules.proofs.laws.checked_answers_fit.Goals as goal

pub returns : goal.returns
returns g c = checked_answers_fit _
