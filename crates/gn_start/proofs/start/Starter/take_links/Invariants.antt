use Rattle.std.proofs.Common.{◌≡◌, true}
use Rattle.gn_start.specs.House.{HasOriginated}
use Rattle.gn_start.specs.Table.{AreComing, all_came}
use Rattle.gn_start.proofs.start.Starter.take_links.Given as goal

abbrev pub invariant-loop : goal.invariant-loop
invariant-loop g l = record {
  same : (l.table.numbering ≡ l.fn.table.numbering) × (l.table.is_open ≡ true);
  coming : (first : g.row.V.Denot)
      → AreComing g.V.Reader.LinkReader.made_of g.V.Incoming.foreknown g.V.Incoming.may_come g.V.Incoming.may_end first l.fn.incoming (all_came l.fn.table.states)
      → AreComing g.V.Reader.LinkReader.made_of g.V.Incoming.foreknown g.V.Incoming.may_come g.V.Incoming.may_end first l.incoming (all_came l.table.states);
  house : HasOriginated (g.V.Incoming.originates l.fn.incoming) l.fn.house l.house;
  own : g.V.Incoming.originates l.incoming ≡ g.V.Incoming.originates l.fn.incoming;
  goes : (goal.iterator-loop g).can_next l.iterator' × (goal.iterator-loop g).is_finite l.iterator';
}
