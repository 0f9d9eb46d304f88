use Rattle.std.proofs.Common.{◌≡◌, ◌∙◌, ap, arith, length-take, if◌then◌else◌, ◌++◌, ◌∷◌, [], is_ok}
use Rattle.gn_rules.proofs.RunLemmas.{running_more}
use Rattle.gn_rules.proofs.runs.run_events.Goals as goal

pub unwrap-requires : goal.unwrap-requires
unwrap-requires g c =
    c.push.ensures.succeeds
    (omega (arith, c.loop-event.invariant.room, c.loop-event.invariant.counted, c.loop-event.results.ok.0, c.loop-event-test.true, length-take c.loop-event.event-index c.args.events.now))

pub loop-event-preserved : goal.loop-event-preserved
loop-event-preserved g c =
    let pushed : c.push.new.self.items ≡ c.loop-event.results.items ++ c.apply-result.result ∷ [] =
    c.push.ensures.items ∙ ap (λ r. if is_ok r then c.loop-event.results.items ++ c.apply-result.result ∷ [] else c.loop-event.results.items) c.unwrap.ensures in
    running_more _ _ _ _ c.args.events.now c.loop-event.event-index c.loop-event.results.items _ (g.C.RouterCore.steps c.loop-event.core) _ c.event-item.result c.apply-result.result _ _
    c.loop-event.invariant c.loop-event-test.true c.event-item.is c.apply-result.ensures.settings pushed c.push.ensures.capacity
    c.apply-result.ensures.answer c.apply-result.ensures.step c.apply-result.ensures.index c.apply-result.ensures.event c.apply-result.ensures.err
