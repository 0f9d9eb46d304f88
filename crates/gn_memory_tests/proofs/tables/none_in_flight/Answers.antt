use Rattle.std.proofs.Common.{ap, arith, nat_cmp, ◌∙◌}
use Rattle.std.specs.FinMap as map
use Rattle.gn_tables.specs.Flying.{Flying}
use Rattle.gn_memory_tests.proofs.tables.none_in_flight.Goals as goal

pub returns-clause-few : goal.returns-clause-few
returns-clause-few g c = rw (c.new.ensures, map.len-empty nat_cmp _) (omega arith)

pub returns-clause-fresh : goal.returns-clause-fresh
returns-clause-fresh g c = ap (λ (f : Flying _). map.get f.flights 0) c.new.ensures ∙ map.get-empty nat_cmp 0
