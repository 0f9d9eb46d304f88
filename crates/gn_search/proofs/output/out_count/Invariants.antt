use Rattle.std.proofs.Common.{◌≡◌, take, reverse, length}
use Rattle.gn_rules.specs.Output.{out}
use Rattle.gn_search.proofs.output.out_count.Given as goal

abbrev pub invariant-loop-step : goal.invariant-loop-step
invariant-loop-step g l = l.count ≡ length (out (reverse (take l.step-index l.history)) l.c)
