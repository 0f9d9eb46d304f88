use Rattle.gn_show.proofs.PieceLemmas.{◌+>◌}
use Rattle.gn_show.proofs.plain_descriptor.push_hit.Goals as goal

pub returns : goal.returns
returns c = c.put.ensures +> (rw c.servent.ensures at c.push_id.ensures) +> c.put-2.ensures +> (rw (c.ip.ensures, c.port.ensures) at c.push_place.ensures) +> c.put-3.ensures +> (rw c.speed.ensures at c.put_number.ensures) +> c.push_results.ensures
