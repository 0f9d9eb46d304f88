use Rattle.std.proofs.Common.{◌≡◌, true}
use Rattle.gn_runs.proofs.threads.stage.are_taken_in_order.Given as goal

abbrev pub invariant-loop : goal.invariant-loop
invariant-loop g l = (l.reception.is_open ≡ true) × (l.reception.made.intakes ≡ l.counter)
