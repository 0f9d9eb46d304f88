use Rattle.gn_renumber.proofs.NumberLemmas.{renumbered_is_own}
use Rattle.gn_renumber.proofs.renumbered.renumbered_is_own.Goals as goal

pub returns : goal.returns
returns g c = renumbered_is_own _ c.numbers_are_apart.ensures
