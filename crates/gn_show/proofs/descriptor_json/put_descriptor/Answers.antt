use Rattle.gn_show.proofs.PieceLemmas.{◌>>◌}
use Rattle.gn_show.proofs.descriptor_json.put_descriptor.Goals as goal

pub returns : goal.returns
returns c = c.begin_object.ensures >> (rw (c.from.ensures, c.code.ensures, c.kind-kind.ensures) at c.put_number.ensures) >> (rw (c.from-2.ensures, c.hops.ensures) at c.put_number-2.ensures) >> (rw c.id.ensures at c.put_hex.ensures) >> (rw (c.kind_names.ensures.json, c.kind-kind.ensures) at c.put_text.ensures) >> c.put_name.ensures >> (rw (c.as_slice.ensures, c.payload.ensures.value, c.kind-kind.ensures) at c.put_payload.ensures) >> (rw (c.from-3.ensures, c.ttl.ensures) at c.put_number-3.ensures) >> c.end_object.ensures
