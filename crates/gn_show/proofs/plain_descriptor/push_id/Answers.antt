use Rattle.gn_show.proofs.PieceLemmas.{◌+>◌}
use Rattle.gn_show.proofs.plain_descriptor.push_id.Goals as goal

pub returns : goal.returns
returns c = c.put_hex.ensures +> c.put.ensures
