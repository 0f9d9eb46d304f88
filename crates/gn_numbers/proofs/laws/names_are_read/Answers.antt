use Rattle.gn_numbers.proofs.NameLemmas.{names_read}
use Rattle.gn_numbers.proofs.laws.names_are_read.Goals as goal

pub returns : goal.returns
returns c = names_read
