use Rattle.std.proofs.Common.{reverse, take}
use Rattle.gn_witness.specs.Pair.{HasMoment}
use Rattle.gn_witness.proofs.MomentLemmas.{in_time, none_below, one_more}
use Rattle.gn_witness.proofs.moments.carries_in_time.Goals as goal

pub loop-until-init : goal.loop-until-init
loop-until-init g c = λ n below. absurd (none_below n below)

pub loop-until-preserved : goal.loop-until-preserved
loop-until-preserved g c =
    one_more (λ n. HasMoment (reverse c.args.first.now) c.args.c (reverse (take n c.args.second.now)) c.args.d) c.loop-until.until c.loop-until.invariant
    (c.has_moment.ensures c.if-not-has_moment.false)

pub returns : goal.returns
returns g c = λ whole.
    in_time c.args.first.now c.args.c c.args.second.now c.args.d c.loop-until.until c.loop-until-test.false c.loop-until.invariant (c.has_moment-2.ensures whole)
