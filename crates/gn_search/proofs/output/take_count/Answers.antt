use Rattle.std.proofs.Common.{◌∙◌, ap, arith}
use Rattle.gn_rules.specs.Output.{takes}
use Rattle.gn_search.proofs.CountLemmas.{at_most_one, one_if, takes_more, walked}
use Rattle.gn_search.proofs.output.take_count.Goals as goal

pub overflow_add-count : goal.overflow_add-count
overflow_add-count g c = omega (arith, c.from-count.ensures, at_most_one c.takes.result)

pub loop-step-preserved : goal.loop-step-preserved
loop-step-preserved g c = record {
  bound = omega (arith, c.from-count.ensures, at_most_one c.takes.result);
  value =
      takes_more c.args.history.now c.loop-step.step-index c.step-item.result c.args.c c.loop-step.count c.from-count.result c.loop-step-test.true c.step-item.is c.loop-step.invariant.value
      (c.from-count.ensures ∙ ap one_if c.takes.ensures);
}

pub returns : goal.returns
returns g c = c.loop-step.invariant.value ∙ ap (λ past. takes past c.args.c) (walked c.args.history.now c.loop-step.step-index c.loop-step-test.false)
