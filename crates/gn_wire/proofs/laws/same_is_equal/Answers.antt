use Rattle.gn_wire.proofs.EqualityLemmas.{same_is_equal}
use Rattle.gn_wire.proofs.laws.same_is_equal.Goals as goal

pub returns : goal.returns
returns c = same_is_equal
