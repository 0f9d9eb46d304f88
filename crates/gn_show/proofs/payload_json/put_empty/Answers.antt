use Rattle.gn_show.proofs.PieceLemmas.{◌>>◌}
use Rattle.gn_show.proofs.payload_json.put_empty.Goals as goal

pub returns : goal.returns
returns c = c.begin_object.ensures >> c.end_object.ensures
