use Rattle.gn_paths.proofs.AgainLemmas.{not_sent_again}
use Rattle.gn_paths.proofs.paths.not_sent_again.Goals as goal

pub returns : goal.returns
returns g c = not_sent_again _
