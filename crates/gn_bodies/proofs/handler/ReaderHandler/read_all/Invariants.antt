use Rattle.std.proofs.Common.{◌≡◌}
use Rattle.gn_links.specs.Halves.{IsReadFrom}
use Rattle.gn_bodies.specs.Admitting.{HasSameNumbers, StaysSettled}
use Rattle.gn_bodies.specs.Reading.{HasReadPieces}
use Rattle.gn_bodies.proofs.handler.ReaderHandler.read_all.Given as goal

abbrev pub invariant-loop : goal.invariant-loop
invariant-loop g l = record {
  same : HasSameNumbers l.initial.self l.self × StaysSettled l.initial.self l.self;
  own : (g.Rd.LinkReader.made_of l.reader ≡ g.Rd.LinkReader.made_of l.initial.reader) × IsReadFrom (g.Rd.LinkReader.gives (g.Rd.LinkReader.made_of l.reader)) (g.Rd.LinkReader.state l.reader);
  read : HasReadPieces l.fn.turns l.fn.role l.piece l.self.actor (g.Rd.LinkReader.state l.reader) (g.Rd.LinkReader.gives (g.Rd.LinkReader.made_of l.reader)).may_fail l.counter;
}
