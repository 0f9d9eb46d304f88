use Rattle.gn_show.proofs.PieceLemmas.{◌+>◌}
use Rattle.gn_show.proofs.plain_descriptor.push_query.Goals as goal

pub returns : goal.returns
returns c = c.put.ensures +> c.push_text.ensures +> c.put-2.ensures +> (rw c.from.ensures at c.put_number.ensures)
