use Rattle.gn_renumber.proofs.MovedLemmas.{moved_is_legal}
use Rattle.gn_renumber.proofs.moved.moved_is_legal.Goals as goal

pub returns : goal.returns
returns g c = moved_is_legal _
