use Rattle.std.proofs.Common.{◌≡◌}
use Rattle.gn_service.proofs.registering.stopper_of.Given as goal

abbrev pub invariant-loop : goal.invariant-loop
invariant-loop g l = record { same : l.found ≡ l.fn.found }
