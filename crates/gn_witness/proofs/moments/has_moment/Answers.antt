use Rattle.std.proofs.Common.{[], reverse, refl}
use Rattle.gn_witness.proofs.MomentLemmas.{moment_at}
use Rattle.gn_witness.proofs.moments.has_moment.Goals as goal

pub returns-then-carries_both : goal.returns-then-carries_both
returns-then-carries_both g c = λ _.
    let both = c.carries_both.ensures c.if-carries_both.true in
    moment_at c.args.first.now c.loop-moment.moment c.args.c (reverse c.args.until.now) c.args.d both.0 both.1

pub returns : goal.returns
returns g c = λ h.
    let both = c.carries_both-2.ensures h in
    ([], reverse c.args.first.now, refl, both.0, both.1)
