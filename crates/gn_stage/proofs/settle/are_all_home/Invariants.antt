use Rattle.std.proofs.Common.{◌≡◌, ◌<◌, ℕ}
use Rattle.std.specs.Prelude.{Any}
use Rattle.gn_stage.proofs.settle.are_all_home.Given as goal

abbrev pub invariant-loop-number : goal.invariant-loop-number
invariant-loop-number g l = (k : ℕ) → k < l.number → Any (λ e. e.number ≡ k) l.homes
