use Rattle.std.proofs.Common.{◌≡◌, take, reverse}
use Rattle.gn_rules.specs.Flight.{is_routed}
use Rattle.gn_search.proofs.flight.is_routed_in.Given as goal

abbrev pub invariant-loop-step : goal.invariant-loop-step
invariant-loop-step g l = l.routed ≡ is_routed (reverse (take l.step-index l.history)) l.t
