use Rattle.std.proofs.Common.{reverse}
use Rattle.gn_witness.proofs.RememberedLemmas.{flood_ends}
use Rattle.gn_witness.proofs.floods.ends.Goals as goal

pub returns : goal.returns
returns g c = λ joined.
    flood_ends c.floods_end.ensures c.args.config.now (reverse c.args.first.now) (reverse c.args.second.now) c.args.c c.args.d
    (c.remembers_all.ensures c.if-not-remembers_all.false) (c.remembers_all-2.ensures c.if-not-remembers_all-2.false) (c.are_joined.ensures joined)
