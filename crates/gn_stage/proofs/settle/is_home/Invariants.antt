use Rattle.std.proofs.Common.{◌≢◌, ◌<◌, ℕ, get_or}
use Rattle.gn_stage.proofs.settle.is_home.Given as goal

abbrev pub invariant-loop-home : goal.invariant-loop-home
invariant-loop-home g l = (k : ℕ) (d : _) → k < l.home-index → (get_or l.homes k d).number ≢ l.number
