use Rattle.std.proofs.Common.{reverse}
use Rattle.gn_witness.proofs.HitLemmas.{over}
use Rattle.gn_witness.proofs.pair.came_over.Goals as goal

pub returns : goal.returns
returns g c = λ joined.
    over c.answers_came_back.ensures c.answers_cross_back.ensures c.answers_follow.ensures c.args.config.now (reverse c.args.first.now) (reverse c.args.second.now)
    c.args.c c.args.d (c.has_hit.ensures c.if-not-has_hit.false) (c.carries_in_time.ensures c.if-not-carries_in_time.false) (c.are_joined.ensures joined)
