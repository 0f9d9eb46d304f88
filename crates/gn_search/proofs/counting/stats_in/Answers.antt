use Rattle.std.proofs.Common.{◌∙◌, take, reverse, ap, sym}
use Rattle.gn_rules.specs.Statistics.{counter_of, raised, stats_of}
use Rattle.gn_rules.proofs.CounterLemmas.{stats_more}
use Rattle.gn_rules.proofs.PastLemmas.{past_more}
use Rattle.gn_search.proofs.CounterLemmas.{may_rise}
use Rattle.gn_search.proofs.CountLemmas.{walked}
use Rattle.gn_search.proofs.counting.stats_in.Goals as goal

pub loop-step-preserved : goal.loop-step-preserved
loop-step-preserved g c =
    c.raise.ensures.more (may_rise c.args.history.now c.loop-step.step-index c.of.result c.loop-step.stats c.requires c.loop-step-test.true c.loop-step.invariant)
    ∙ ap (λ k. raised k c.loop-step.stats) c.of.ensures
    ∙ ap (raised (counter_of c.step-item.result.reply)) c.loop-step.invariant
    ∙ sym (stats_more c.step-item.result (reverse (take c.loop-step.step-index c.args.history.now)))
    ∙ sym (ap stats_of (past_more c.args.history.now c.loop-step.step-index c.step-item.result c.loop-step-test.true c.step-item.is))

pub returns : goal.returns
returns g c = c.loop-step.invariant ∙ ap stats_of (walked c.args.history.now c.loop-step.step-index c.loop-step-test.false)
