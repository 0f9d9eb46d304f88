use Rattle.gn_show.proofs.PieceLemmas.{◌>>◌}
use Rattle.gn_show.proofs.payload_json.put_push.Goals as goal

pub returns : goal.returns
returns c = c.begin_object.ensures >> c.put_number.ensures >> c.put_ip.ensures >> (rw c.from.ensures at c.put_number-2.ensures) >> c.put_hex.ensures >> c.end_object.ensures
