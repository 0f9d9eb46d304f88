use Rattle.gn_rules.proofs.OutputLemmas.{output_is_untaken}
use Rattle.gn_rules.proofs.laws.output_is_untaken.Goals as goal

pub returns : goal.returns
returns g c = output_is_untaken _
