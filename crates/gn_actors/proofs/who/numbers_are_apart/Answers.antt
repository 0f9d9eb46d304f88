use Rattle.gn_actors.proofs.WhoLemmas.{numbers_are_apart}
use Rattle.gn_actors.proofs.who.numbers_are_apart.Goals as goal

pub returns : goal.returns
returns c = numbers_are_apart
