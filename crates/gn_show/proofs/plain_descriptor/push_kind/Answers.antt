use Rattle.gn_show.proofs.PieceLemmas.{◌+>◌}
use Rattle.gn_show.proofs.plain_descriptor.push_kind.Goals as goal

pub returns : goal.returns
returns c = (rw (c.as_bytes.ensures.value, c.kind_names.ensures.title) at c.put.ensures) +> c.push_code.ensures
