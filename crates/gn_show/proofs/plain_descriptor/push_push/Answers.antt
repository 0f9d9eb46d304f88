use Rattle.gn_show.proofs.PieceLemmas.{◌+>◌}
use Rattle.gn_show.proofs.plain_descriptor.push_push.Goals as goal

pub returns : goal.returns
returns c = c.put.ensures +> c.push_id.ensures +> c.put-2.ensures +> c.put_number.ensures +> c.put-3.ensures +> c.push_place.ensures
