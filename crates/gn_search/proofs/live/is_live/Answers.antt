use Rattle.std.proofs.Common.{◌∙◌, ◌||◌, ◌&&◌, ap, not}
use Rattle.gn_rules.specs.History.{connected_of, is_at, is_close, live}
use Rattle.gn_search.proofs.CountLemmas.{test_more, walked}
use Rattle.gn_search.proofs.live.is_live.Goals as goal

pub loop-step-preserved : goal.loop-step-preserved
loop-step-preserved g c =
    test_more (λ past. live past c.args.c) c.args.history.now c.loop-step.step-index c.step-item.result c.live_after-live.result c.loop-step-test.true c.step-item.is
    (c.live_after-live.ensures ∙ ap (λ b. is_at c.args.c (connected_of c.step-item.result.reply) || (not (is_close c.args.c c.step-item.result.event) && b)) c.loop-step.invariant)

pub returns : goal.returns
returns g c = c.loop-step.invariant ∙ ap (λ past. live past c.args.c) (walked c.args.history.now c.loop-step.step-index c.loop-step-test.false)
