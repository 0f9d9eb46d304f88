use Rattle.gn_show.proofs.PieceLemmas.{◌+>◌}
use Rattle.gn_show.proofs.plain_descriptor.push_place.Goals as goal

pub returns : goal.returns
returns c = c.put_ip.ensures +> c.put.ensures +> (rw c.from.ensures at c.put_number.ensures)
