use Rattle.std.proofs.Common.{◌≡◌}
use Rattle.gn_bench.proofs.tables.next_flights.Given as goal

abbrev pub invariant-loop-ticket : goal.invariant-loop-ticket
invariant-loop-ticket l = l.flights.most ≡ l.size
