use Rattle.std.proofs.Common.{reverse}
use Rattle.gn_witness.proofs.PairLemmas.{pair_is_network}
use Rattle.gn_witness.proofs.pair.are_joined.Goals as goal

pub returns : goal.returns
returns g c = λ back.
    pair_is_network c.args.config.now (reverse c.args.first.now) (reverse c.args.second.now) c.args.c c.args.d (c.is_legal.ensures c.if-not-is_legal.false)
    (c.is_legal-2.ensures c.if-not-is_legal-2.false) (c.carries.ensures c.if-not-carries.false) (c.carries-2.ensures back)
