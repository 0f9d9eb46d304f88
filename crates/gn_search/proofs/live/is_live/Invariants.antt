use Rattle.std.proofs.Common.{◌≡◌, take, reverse}
use Rattle.gn_rules.specs.History.{live}
use Rattle.gn_search.proofs.live.is_live.Given as goal

abbrev pub invariant-loop-step : goal.invariant-loop-step
invariant-loop-step g l = l.live ≡ live (reverse (take l.step-index l.history)) l.c
