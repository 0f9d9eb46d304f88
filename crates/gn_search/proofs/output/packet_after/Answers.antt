use Rattle.std.proofs.Common.{◌≡◌, ◌∙◌, ◌+◌, ◌-◌, length, drop, slice_get, sym, ap, arith}
use Rattle.std.proofs.lemmas.List.{drop_all}
use Rattle.gn_rules.specs.Output.{queued_to}
use Rattle.gn_search.proofs.OutputLemmas.{queued_in, queued_reversed, found_here, fewer_here, found_later}
use Rattle.gn_search.proofs.output.packet_after.Goals as goal

pub returns-then-is_some : goal.returns-then-is_some
returns-then-is_some g c =
    found_here c.args.history.now c.loop-step.step-index c.args.c c.args.others c.loop-step.skip c.step-item.result c.sends.result.now c.queued_after-packet.result c.loop-step-test.true c.step-item.is c.sends.ensures
    c.queued_after-packet.ensures c.loop-step.invariant (sym c.is_some.ensures ∙ c.if-is_some.true)

pub overflow_sub-skip : goal.overflow_sub-skip
overflow_sub-skip g c =
    let same : c.queued_count-skip.result ≡ length (queued_to c.args.c c.sends.result.now) =
    c.queued_count-skip.ensures ∙ ap (λ sends. length (queued_to c.args.c sends)) (c.sends-in-loop-step.ensures ∙ sym c.sends.ensures) in
    omega (
      arith,
      same,
      fewer_here c.args.history.now c.loop-step.step-index c.args.c c.args.others c.loop-step.skip c.step-item.result c.sends.result.now c.queued_after-packet.result c.loop-step-test.true c.step-item.is
          c.sends.ensures c.queued_after-packet.ensures c.loop-step.invariant (sym c.is_some.ensures ∙ c.if-is_some.false),
    )

pub loop-step-preserved : goal.loop-step-preserved
loop-step-preserved g c =
    let same : c.queued_count-skip.result ≡ length (queued_to c.args.c c.sends.result.now) =
    c.queued_count-skip.ensures ∙ ap (λ sends. length (queued_to c.args.c sends)) (c.sends-in-loop-step.ensures ∙ sym c.sends.ensures) in
    found_later c.args.history.now c.loop-step.step-index c.args.c c.args.others c.loop-step.skip c.step-item.result c.sends.result.now c.queued_after-packet.result c.loop-step-test.true c.step-item.is c.sends.ensures
    c.queued_after-packet.ensures c.loop-step.invariant (sym c.is_some.ensures ∙ c.if-is_some.false)
    ∙ ap (λ n. slice_get (queued_in c.args.c (drop (c.loop-step.step-index + 1) c.args.history.now)) (c.loop-step.skip - n)) (sym same)

pub returns : goal.returns
returns g c =
    sym (ap (λ packets. slice_get packets c.args.others) (queued_reversed c.args.c c.args.history.now)
    ∙ c.loop-step.invariant
    ∙ ap (λ steps. slice_get (queued_in c.args.c steps) c.loop-step.skip) (drop_all c.loop-step.step-index c.args.history.now c.loop-step-test.false))
