use Rattle.std.proofs.Common.{◌∙◌, ap, subst, sym}
use Rattle.gn_actors.specs.Registry.{IsOut}
use Rattle.gn_bodies.specs.Done.{half_of}
use Rattle.gn_hub.specs.Retired.{IsRetired}
use Rattle.gn_start.specs.Joined.{IsWriterJoined}
use Rattle.gn_start.specs.Over.{views_of}
use Rattle.gn_start.proofs.HomeLemmas.{home_is, link_kept, whole_kept}
use Rattle.gn_start.proofs.homing.come_home.Goals as goal

pub retire-retired-requires : goal.retire-retired-requires
retire-retired-requires g c =
    let a = ap (λ me. me.number) c.part-retiring.ensures.actors.0 ∙ c.join-reader.ensures.reader.number in
    let b = ap (λ me. me.number) c.part-retiring.ensures.actors.1 ∙ c.join-reader.ensures.writer.number in
    record {
      reader = subst (IsOut c.args.registry.now) (sym a) c.requires.reader;
      writer = subst (IsOut c.args.registry.now) (sym b) c.requires.writer;
      apart = λ e. c.requires.apart (sym a ∙ e ∙ b);
    }

pub returns-clause-registry : goal.returns-clause-registry
returns-clause-registry g c =
    let gone = c.retire-retired.ensures.retired in
    let me = c.part-retiring.ensures.actors.0 in
    let us = c.part-retiring.ensures.actors.1 in
    home_is c.args.registry.now c.retire-retired.new.registry c.part-retiring.result.0.reader c.part-retiring.result.0.writer c.args.live.reader c.args.live.writer c.retire-retired.result.read.items c.retire-retired.result.written.items
    c.retire-retired.ensures.registry (ap (λ x. x.number) me ∙ c.join-reader.ensures.reader.number) (ap (λ x. x.number) us ∙ c.join-reader.ensures.writer.number) (sym gone.read) (sym gone.written)

pub returns-clause-kept : goal.returns-clause-kept
returns-clause-kept g c = λ one.
    let views = views_of g.V.Reader.LinkReader.state g.V.Writer.LinkWriter.state g.V.Reader.LinkReader.gives g.V.Reader.LinkReader.made_of g.V.Writer.LinkWriter.made_of in
    let reader = c.join-reader.result.0 in
    let writer = c.join-reader.result.1 in
    let retired = c.retire-retired.result in
    let part = c.part-retiring.ensures in
    let gone = subst (λ x. IsRetired c.retire-retired.new.registry.seen x writer.actor reader.connection writer.idle retired) part.actors.0
    (subst (λ x. IsRetired c.retire-retired.new.registry.seen c.part-retiring.result.0.reader x reader.connection writer.idle retired) part.actors.1
    (subst (λ x. IsRetired c.retire-retired.new.registry.seen c.part-retiring.result.0.reader c.part-retiring.result.0.writer x writer.idle retired) part.known.0
    (subst (λ x. IsRetired c.retire-retired.new.registry.seen c.part-retiring.result.0.reader c.part-retiring.result.0.writer c.part-retiring.result.0.conn x retired) part.known.1 c.retire-retired.ensures.retired))) in
    let wrote = subst (λ r. IsWriterJoined g.V.Writer.LinkWriter.state g.V.Writer.LinkWriter.made_of g.B.Limited.batch c.args.live.writer (half_of r c.args.live.came.writer) writer) c.requires.role c.join-reader.ensures.writer in
    link_kept g.B.Limited.turns g.B.Limited.batch views c.args.live.reader c.args.live.writer c.args.live.came reader writer c.retire-retired.new.registry.seen retired
    c.part-retiring.result.2 c.ended-end.result.0 c.ended-end.result.1 c.join-reader.ensures.reader wrote gone part.ends c.ended-end.ensures.ended one

pub returns-clause-whole : goal.returns-clause-whole
returns-clause-whole g c = whole_kept c.part-retiring.result.2 c.retire-retired.result c.ended-end.result.0 c.ended-end.result.1 c.ended-end.ensures.ended
