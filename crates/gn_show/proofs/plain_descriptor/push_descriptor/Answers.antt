use Rattle.gn_show.proofs.PieceLemmas.{◌+>◌}
use Rattle.gn_show.proofs.plain_descriptor.push_descriptor.Goals as goal

pub returns : goal.returns
returns c = (rw c.kind.ensures at c.push_kind.ensures) +> c.put.ensures +> (rw (c.from.ensures, c.ttl.ensures) at c.put_number.ensures) +> c.put-2.ensures +> (rw (c.from-2.ensures, c.hops.ensures) at c.put_number-2.ensures) +> c.put-3.ensures +> (rw c.id.ensures at c.push_id.ensures) +> (rw (c.as_slice.ensures, c.payload.ensures.value, c.kind-2.ensures) at c.push_payload.ensures)
