use Rattle.std.proofs.Common.{◌≡◌}
use Rattle.gn_start.specs.House.{HasRecalled}
use Rattle.gn_start.specs.Incoming.{IsSameFrom}
use Rattle.gn_start.proofs.start.Starter.recall.Given as goal

abbrev pub invariant-loop : goal.invariant-loop
invariant-loop g l = record {
  coming : IsSameFrom g.V.Incoming.may_come g.V.Incoming.may_end 0 l.fn.incoming l.incoming;
  same : (g.V.Incoming.originates l.incoming ≡ g.V.Incoming.originates l.fn.incoming) × (g.V.Incoming.recalls l.incoming ≡ g.V.Incoming.recalls l.fn.incoming);
  house : HasRecalled (g.V.Incoming.recalls l.fn.incoming) l.fn.house l.house;
  goes : (goal.iterator-loop g).can_next l.iterator' × (goal.iterator-loop g).is_finite l.iterator';
}
