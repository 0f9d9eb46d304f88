use Rattle.gn_show.proofs.PieceLemmas.{◌>>◌}
use Rattle.gn_show.proofs.payload_json.put_hit.Goals as goal

pub returns : goal.returns
returns c = c.begin_object.ensures >> (rw c.ip.ensures at c.put_ip.ensures) >> (rw (c.from.ensures, c.port.ensures) at c.put_number.ensures) >> c.put_name.ensures >> c.put_results.ensures >> (rw c.servent.ensures at c.put_hex.ensures) >> (rw c.speed.ensures at c.put_number-2.ensures) >> (rw c.trailer.ensures at c.put_hex-2.ensures) >> c.end_object.ensures
