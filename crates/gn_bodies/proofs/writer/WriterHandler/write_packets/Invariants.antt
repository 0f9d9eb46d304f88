use Rattle.std.proofs.Common.{◌≡◌, None}
use Rattle.gn_bodies.specs.declared.ends.WriterEnd.TheVariants.{Closed}
use Rattle.gn_bodies.specs.Writing.{WritesPackets}
use Rattle.gn_bodies.proofs.writer.WriterHandler.write_packets.Given as goal

abbrev pub invariant-loop : goal.invariant-loop
invariant-loop g l = record {
  same : (l.self.caller.number ≡ l.initial.self.caller.number) × (g.W.LinkWriter.made_of l.self.writer ≡ g.W.LinkWriter.made_of l.initial.self.writer);
  written : WritesPackets l.fn.batch l.fn.role Closed l.fn.c None l.self.caller (g.W.LinkWriter.state l.self.writer);
}
