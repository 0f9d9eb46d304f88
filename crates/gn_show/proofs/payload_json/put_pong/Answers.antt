use Rattle.gn_show.proofs.PieceLemmas.{◌>>◌}
use Rattle.gn_show.proofs.payload_json.put_pong.Goals as goal

pub returns : goal.returns
returns c = c.begin_object.ensures >> c.put_number.ensures >> c.put_ip.ensures >> c.put_number-2.ensures >> (rw c.from.ensures at c.put_number-3.ensures) >> c.end_object.ensures
