use Rattle.gn_show.proofs.PieceLemmas.{◌+>◌}
use Rattle.gn_show.proofs.plain_descriptor.push_result.Goals as goal

pub returns : goal.returns
returns c = c.put.ensures +> c.put_number.ensures +> c.put-2.ensures +> c.push_text.ensures +> c.put-3.ensures +> c.put_number-2.ensures +> c.put-4.ensures
