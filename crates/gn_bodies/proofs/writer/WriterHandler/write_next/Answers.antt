use Rattle.std.proofs.Common.{refl, rules, subst}
use Rattle.gn_hub.specs.declared.next.Outgoing.{Outgoing}
use Rattle.gn_bodies.specs.Writing.{HasNext}
use Rattle.gn_bodies.proofs.WrittenLemmas.{found_none, packets_taken}
use Rattle.gn_bodies.proofs.writer.WriterHandler.write_next.Goals as goal

pub returns-in-Ok-Packet-clause-written : goal.returns-in-Ok-Packet-clause-written
returns-in-Ok-Packet-clause-written g c role was =
    let took = subst (λ (next : Outgoing). HasNext c.args.batch c.args.c next c.next_out.new.idle c.args.self.now.caller c.next_out.new.self) c.in-Ok-Packet.field-0-is c.in-Ok-Packet.ensures.next in
    let same = c.write_taken.ensures.same in
    rw (same.0, same.1) (packets_taken c.args.batch role c.args.c c.next_out.new.idle c.args.self.now.caller c.next_out.new.self c.next_out.new.taken.items c.next_out.new.taken.items c.write_taken.result (g.W.LinkWriter.state c.args.self.now.writer) (g.W.LinkWriter.state c.write_taken.new.self.writer)
    refl c.next_out.ensures.taken took c.write_taken.ensures.state was)

pub returns-in-Ok-Drained-clause-written : goal.returns-in-Ok-Drained-clause-written
returns-in-Ok-Drained-clause-written g c role was =
    found_none c.args.batch role _ c.args.c c.next_out.new.idle c.args.self.now.caller c.next_out.new.self _ (search rules) was

pub returns-in-Ok-Closed-clause-written : goal.returns-in-Ok-Closed-clause-written
returns-in-Ok-Closed-clause-written g c role was =
    found_none c.args.batch role _ c.args.c c.next_out.new.idle c.args.self.now.caller c.next_out.new.self _ (search rules) was
