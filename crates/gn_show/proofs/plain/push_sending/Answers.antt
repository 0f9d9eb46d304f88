use Rattle.gn_show.proofs.PieceLemmas.{◌+>◌}
use Rattle.gn_show.proofs.plain.push_sending.Goals as goal

pub returns : goal.returns
returns c = c.put.ensures +> c.put_number.ensures +> (rw c.queued_words.ensures at c.put-2.ensures) +> c.push_descriptor.ensures
