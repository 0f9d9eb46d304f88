use Rattle.std.proofs.Common.{◌≡◌}
use Rattle.gn_waits.proofs.reads.read_patiently.Given as goal

abbrev pub invariant-loop : goal.invariant-loop
invariant-loop g l = record { told : l.told ≡ l.fn.told }
