use Rattle.std.proofs.Common.{reverse, subst}
use Rattle.gn_paths.specs.Networks.{Carries}
use Rattle.gn_paths.proofs.OriginLemmas.{none_in}
use Rattle.gn_witness.proofs.LinkLemmas.{carries_more, walked}
use Rattle.gn_witness.proofs.links.carries.Goals as goal

pub loop-step-init : goal.loop-step-init
loop-step-init g c = λ p has. absurd (none_in p has)

pub loop-step-preserved : goal.loop-step-preserved
loop-step-preserved g c =
    carries_more c.args.second.now c.loop-step.step-index c.step-item.result c.loop-step-test.true c.step-item.is (reverse c.args.first.now) c.args.c c.args.d
    (c.is_carried.ensures c.if-not-is_carried.false) c.loop-step.invariant

pub returns : goal.returns
returns g c = λ _.
    subst (λ past. Carries (reverse c.args.first.now) c.args.c past c.args.d) (walked c.args.second.now c.loop-step.step-index c.loop-step-test.false) c.loop-step.invariant
