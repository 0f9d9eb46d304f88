use Rattle.std.proofs.Common.{◌∙◌, ap, arith, filter, length, reverse}
use Rattle.gn_rules.specs.History.{connections, live}
use Rattle.gn_search.proofs.CountLemmas.{at_most_one, connections_more_of, one_if, walked}
use Rattle.gn_search.proofs.live.live_count.Goals as goal

pub overflow_add-count : goal.overflow_add-count
overflow_add-count g c = omega (arith, c.from-count.ensures, at_most_one c.is_some.result)

pub loop-step-preserved : goal.loop-step-preserved
loop-step-preserved g c = record {
  bound = omega (arith, c.from-count.ensures, at_most_one c.is_some.result);
  value =
      connections_more_of (live (reverse c.args.history.now)) c.args.history.now c.loop-step.step-index c.step-item.result c.loop-step.count c.from-count.result c.live_made.result c.loop-step-test.true c.step-item.is
      c.loop-step.invariant.value c.live_made.ensures.value (c.from-count.ensures ∙ ap one_if c.is_some.ensures);
}

pub returns-clause-value : goal.returns-clause-value
returns-clause-value g c =
    c.loop-step.invariant.value ∙ ap (λ past. length (filter (live (reverse c.args.history.now)) (connections past))) (walked c.args.history.now c.loop-step.step-index c.loop-step-test.false)
