use Rattle.gn_renumber.proofs.MovedLemmas.{moved_is_alike}
use Rattle.gn_renumber.proofs.moved.moved_is_alike.Goals as goal

pub returns : goal.returns
returns g c = moved_is_alike _
