use Rattle.std.proofs.Common.{◌∙◌, sym, subst}
use Rattle.gn_bodies.specs.Done.{WritesAs}
use Rattle.gn_bodies.specs.declared.ends.WriterEnd.TheVariants.{NeverOpened, WriteFailed}
use Rattle.gn_bodies.proofs.EventLemmas.{closed_packets}
use Rattle.gn_bodies.proofs.WrittenLemmas.{steps_closed, steps_kept, took_none}
use Rattle.gn_bodies.proofs.writer.WriterHandler.write_link.Goals as goal

pub returns-in_ok-self-clause-written : goal.returns-in_ok-self-clause-written
returns-in_ok-self-clause-written g c =
    subst (λ packets. WritesAs c.args.batch c.args.role c.in_ok-end.end packets (g.W.LinkWriter.state c.write_packets.new.self.writer))
    (sym (closed_packets c.in-Some.c c.in_ok-self.field-0 c.write_packets.new.self.caller c.close.new.self c.in_ok-self.ensures)) c.in_ok-end.ensures.written.written

pub returns-then-not-write_request-clause-written : goal.returns-then-not-write_request-clause-written
returns-then-not-write_request-clause-written g c =
    took_none c.args.batch c.args.role WriteFailed c.args.self.now.caller (g.W.LinkWriter.state c.write_request.new.writer) c.requires.some c.requires.new.0 (c.write_request.ensures.part c.if-not-write_request.true)

pub returns-in_default-clause-written : goal.returns-in_default-clause-written
returns-in_default-clause-written g c =
    took_none c.args.batch c.args.role NeverOpened c.args.self.now.caller (g.W.LinkWriter.state c.write_request.new.writer) c.requires.some c.requires.new.0 (c.write_request.ensures.all c.if-not-write_request.false)

pub returns-in_ok-self-clause-steps : goal.returns-in_ok-self-clause-steps
returns-in_ok-self-clause-steps g c =
    steps_closed c.args.role c.in_ok-end.end c.in-Some.c c.in_ok-self.field-0 c.write_packets.new.self.idle c.write_packets.new.self.caller c.close.new.self c.in-WriteFailed.is c.in_ok-end.ensures.written.steps c.in_ok-self.ensures

pub returns-in_default-end : goal.returns-in_default-end
returns-in_default-end g c = record {
  same = (c.in_ok-end.ensures.same.0, c.in_ok-end.ensures.same.1 ∙ c.write_request.ensures.made);
  written = c.in_ok-end.ensures.written.written;
  steps = steps_kept c.args.role c.in_ok-end.end c.in-Some.c c.write_packets.new.self.found_closed c.write_packets.new.self.idle c.write_packets.new.self.caller.receipts c.in_default-end.not-WriteFailed c.in_ok-end.ensures.written.steps;
}
