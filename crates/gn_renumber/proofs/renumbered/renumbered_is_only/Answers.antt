use Rattle.gn_renumber.proofs.NumberLemmas.{renumbered_is_only}
use Rattle.gn_renumber.proofs.renumbered.renumbered_is_only.Goals as goal

pub returns : goal.returns
returns g c = renumbered_is_only _
