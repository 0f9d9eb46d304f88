use Rattle.std.proofs.Common.{subst}
use Rattle.gn_frames.specs.Reassembly.{IsFeedRefusal}
use Rattle.gn_inbound.proofs.InboundLemmas.{delivered, stays_ended}
use Rattle.gn_inbound.proofs.inbound.deliver.Goals as goal

pub returns-in-Ok : goal.returns-in-Ok
returns-in-Ok g c = λ role b was.
    delivered c.greeting_is_known.ensures c.pieces_are_one_stream.ensures role b c.args.piece.now c.args.frames c.in-Ok.field-0.descriptors.items c.in-Ok.field-0.fault
    c.feed.new.self c.in-Ok.ensures.ok was

pub returns-in-Err-Ended : goal.returns-in-Err-Ended
returns-in-Err-Ended g c = λ role b was.
    rw (c.none.ensures.opened, c.none.ensures.descriptors, c.none.ensures.fault)
    (stays_ended c.greeting_is_known.ensures c.frames_are_cut.ensures role b c.args.piece.now c.args.frames c.feed.new.self
    (subst (λ r. IsFeedRefusal c.args.frames r) c.in-Err-Ended.field-0-is c.in-Err-Ended.ensures.refusal) c.in-Err-Ended.ensures.unchanged was)
