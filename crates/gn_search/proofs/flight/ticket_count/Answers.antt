use Rattle.std.proofs.Common.{◌∙◌, ap, arith, is_some, length}
use Rattle.gn_rules.specs.Flight.{tickets}
use Rattle.gn_search.proofs.CountLemmas.{at_most_one, one_if, tickets_more, walked}
use Rattle.gn_search.proofs.flight.ticket_count.Goals as goal

pub overflow_add-count : goal.overflow_add-count
overflow_add-count g c = omega (arith, c.from-count.ensures, at_most_one c.is_some.result)

pub loop-step-preserved : goal.loop-step-preserved
loop-step-preserved g c = record {
  bound = omega (arith, c.from-count.ensures, at_most_one c.is_some.result);
  value =
      tickets_more c.args.history.now c.loop-step.step-index c.step-item.result c.loop-step.count c.from-count.result c.loop-step-test.true c.step-item.is c.loop-step.invariant.value
      (c.from-count.ensures ∙ ap one_if (c.is_some.ensures ∙ ap is_some c.admitted.ensures));
}

pub returns-clause-value : goal.returns-clause-value
returns-clause-value g c = c.loop-step.invariant.value ∙ ap (λ past. length (tickets past)) (walked c.args.history.now c.loop-step.step-index c.loop-step-test.false)
