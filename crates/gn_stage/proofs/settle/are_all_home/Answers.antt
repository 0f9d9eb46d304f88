use Rattle.std.proofs.Common.{◌≡◌, ◌+◌, ◌<◌, ℕ, subst, arith, lt_of_not-le}
use native.Mathlib.Decide.{dec_le}
use Rattle.gn_stage.proofs.settle.are_all_home.Goals as goal

-- what holds below n, and of n, holds below n + 1
one_more : (P : ℕ → Type 0) (n : ℕ) → ((k : ℕ) → k < n → P k) → P n → (k : ℕ) → k < n + 1 → P k
one_more P n below here k lt = elim (dec_le n k) [ yes le ↦ subst P (let same : n ≡ k = omega arith in same) here | no m ↦ below k (lt_of_not-le m) ]

pub loop-number-preserved : goal.loop-number-preserved
loop-number-preserved g c = one_more _ _ c.loop-number.invariant (c.is_home.ensures.0 c.if-not-is_home.false)
