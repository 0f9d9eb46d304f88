use Rattle.std.proofs.Common.{◌∙◌, ◌≡◌, ℕ, None, ap, arith, replicate}
use Rattle.gn_start.proofs.slots.Slots.new.Goals as goal

pub returns : goal.returns
returns g c =
    let same : c.loop.counter ≡ c.args.slots = omega (arith, c.loop.invariant.below, c.loop-test.false) in
    c.loop.invariant.items ∙ ap (λ (n : ℕ). replicate n None) same
