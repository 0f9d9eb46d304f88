use Rattle.gn_show.proofs.PieceLemmas.{◌+>◌}
use Rattle.gn_show.proofs.plain_descriptor.push_unread.Goals as goal

pub returns : goal.returns
returns c = c.put.ensures +> c.put_hex.ensures
