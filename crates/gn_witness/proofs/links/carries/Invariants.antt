use Rattle.std.proofs.Common.{reverse, take}
use Rattle.gn_paths.specs.Networks.{Carries}
use Rattle.gn_witness.proofs.links.carries.Given as goal

abbrev pub invariant-loop-step : goal.invariant-loop-step
invariant-loop-step g l = Carries (reverse l.first) l.c (reverse (take l.step-index l.second)) l.d
