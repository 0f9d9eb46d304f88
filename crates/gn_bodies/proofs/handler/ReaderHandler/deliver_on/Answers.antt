use Rattle.gn_bodies.proofs.DeliveryLemmas.{admitted_piece, admitted_taken, streamed}
use Rattle.gn_bodies.proofs.handler.ReaderHandler.deliver_on.Goals as goal

pub returns-clause-piece : goal.returns-clause-piece
returns-clause-piece g c =
    rw c.of_admitted.ensures (admitted_piece c.args.c c.in-Ok.fed.descriptors.items c.feed.new.self c.admit_all-admitted.result c.in-Ok.fed.fault c.args.self.now c.admit_all-admitted.new.self c.requires.connection c.admit_all-admitted.ensures.goes_on
    c.admit_all-admitted.ensures.ok c.admit_all-admitted.ensures.not_live)

pub returns-clause-taken : goal.returns-clause-taken
returns-clause-taken g c role b s whole was =
    let is = streamed s c.args.piece.now c.args.frames c.in-Ok.fed.descriptors.items c.in-Ok.fed.fault c.feed.new.self c.pieces_are_one_stream.ensures was.held c.in-Ok.ensures.ok in
    rw c.of_admitted.ensures (admitted_taken c.greeting_is_known.ensures role b s c.args.piece.now c.args.c c.in-Ok.fed.descriptors.items c.feed.new.self c.admit_all-admitted.result c.in-Ok.fed.fault c.args.self.now.actor
    c.admit_all-admitted.new.self.actor whole is was.events c.admit_all-admitted.ensures.ok c.admit_all-admitted.ensures.not_live)
