use Rattle.gn_show.proofs.PieceLemmas.{◌+>◌}
use Rattle.gn_show.proofs.plain_descriptor.push_pong.Goals as goal

pub returns : goal.returns
returns c = c.put.ensures +> c.push_place.ensures +> c.put-2.ensures +> c.put_number.ensures +> c.put-3.ensures +> c.put_number-2.ensures +> c.put-4.ensures
