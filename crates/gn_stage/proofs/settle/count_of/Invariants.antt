use Rattle.std.proofs.Common.{◌≡◌, length, take}
use Rattle.std.specs.Prelude.{sum_by}
use Rattle.gn_stage.specs.Settled.{capped}
use Rattle.gn_stage.proofs.settle.count_of.Given as goal

abbrev pub invariant-loop-home : goal.invariant-loop-home
invariant-loop-home g l = l.count ≡ capped (sum_by (λ e. length e.jobs) (take l.home-index l.homes))
