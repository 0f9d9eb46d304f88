use Rattle.gn_show.proofs.PieceLemmas.{◌+>◌}
use Rattle.gn_show.proofs.plain.push_numbered.Goals as goal

pub returns : goal.returns
returns c = c.put.ensures +> c.put_number.ensures
