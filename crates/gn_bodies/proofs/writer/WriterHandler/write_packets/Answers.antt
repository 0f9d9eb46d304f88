use Rattle.std.proofs.Common.{◌∙◌, None, refl}
use Rattle.gn_bodies.specs.declared.ends.WriterEnd.TheVariants.{Closed, WriteFailed}
use Rattle.gn_bodies.proofs.WrittenLemmas.{opened, takes_none, writes_last, writes_more}
use Rattle.gn_bodies.proofs.writer.WriterHandler.write_packets.Goals as goal

pub returns-then-not-write_consent-clause-same : goal.returns-then-not-write_consent-clause-same
returns-then-not-write_consent-clause-same g c = (refl, c.write_consent.ensures.made)

pub returns-then-not-write_consent-clause-written : goal.returns-then-not-write_consent-clause-written
returns-then-not-write_consent-clause-written g c =
    opened c.args.batch c.args.role WriteFailed c.args.c c.args.self.now.idle c.args.self.now.caller (g.W.LinkWriter.state c.write_consent.new.writer) c.requires.some c.requires.none (c.write_consent.ensures.part c.if-not-write_consent.true)
    (takes_none c.args.c c.args.self.now.caller c.requires.none)

pub loop-init : goal.loop-init
loop-init g c = record {
  same = (refl, refl);
  written = opened c.args.batch c.args.role Closed c.args.c None c.args.self.now.caller (g.W.LinkWriter.state c.write_consent.new.writer) c.requires.some c.requires.none (c.write_consent.ensures.all c.if-not-write_consent.false)
      (takes_none c.args.c c.args.self.now.caller c.requires.none);
}

pub loop-preserved : goal.loop-preserved
loop-preserved g c =
    let was = c.loop.invariant in
    record {
      same = (c.write_next.ensures.same.0 ∙ was.same.0, c.write_next.ensures.same.1 ∙ was.same.1);
      written = writes_more c.args.batch c.args.role _ c.args.c c.write_next.new.self.idle c.write_next.new.self.caller (g.W.LinkWriter.state c.write_next.new.self.writer) c.in_default.is (c.write_next.ensures.written c.args.role was.written);
    }

pub returns-in-Some-write_next-clause-same : goal.returns-in-Some-write_next-clause-same
returns-in-Some-write_next-clause-same g c = (c.write_next.ensures.same.0 ∙ c.loop.invariant.same.0, c.write_next.ensures.same.1 ∙ c.loop.invariant.same.1 ∙ c.write_consent.ensures.made)

pub returns-in-Some-write_next-clause-written : goal.returns-in-Some-write_next-clause-written
returns-in-Some-write_next-clause-written g c =
    writes_last c.args.batch c.args.role _ c.in-Some-write_next.end c.args.c c.write_next.new.self.idle c.write_next.new.self.caller (g.W.LinkWriter.state c.write_next.new.self.writer) c.in-Some-write_next.is (c.write_next.ensures.written c.args.role c.loop.invariant.written)
