use Rattle.std.proofs.Common.{◌∙◌, refl, vec_items}
use Rattle.gn_bodies.specs.Events.{link_events}
use Rattle.gn_bodies.proofs.SeveralLemmas.{halted_so}
use Rattle.gn_bodies.proofs.handler.ReaderHandler.admit_batches.Goals as goal

pub admit_events-answer-requires : goal.admit_events-answer-requires
admit_events-answer-requires g c = record { admits = (c.args.c, vec_items c.args.descriptors, c.as_slice.ensures.value ∙ c.in-Ok.ensures) }

pub returns-clause-not_live : goal.returns-clause-not_live
returns-clause-not_live g c =
    halted_so c.admit_events-answer.result c.args.c (vec_items c.args.descriptors) c.as_slice.result.now (link_events c.args.self.now.actor) (link_events c.args.self.now.actor) (link_events c.admit_events-answer.new.self.actor)
    (c.as_slice.ensures.value ∙ c.in-Ok.ensures) refl c.admit_events-answer.ensures.not_live
