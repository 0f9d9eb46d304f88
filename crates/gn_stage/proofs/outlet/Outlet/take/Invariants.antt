use Rattle.std.proofs.Common.{◌≡◌}
use Rattle.gn_stage.proofs.outlet.Outlet.take.Given as goal

abbrev pub invariant-loop : goal.invariant-loop
invariant-loop g l = l.self ≡ l.initial.self
