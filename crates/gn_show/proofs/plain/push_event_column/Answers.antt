use Rattle.gn_show.proofs.PieceLemmas.{column}
use Rattle.gn_show.proofs.plain.push_event_column.Goals as goal

pub returns : goal.returns
returns c = column 32 c.push_event.ensures (rw (c.saturating_sub.ensures, c.saturating_sub-width.ensures, c.len.ensures, c.len-begun.ensures) at c.put_spaces.ensures)
