use Rattle.std.proofs.Common.{◌++◌, ◌∙◌}
use Rattle.gn_shake.specs.Greeting.{greeting_of}
use Rattle.gn_bodies.proofs.ReadingLemmas.{greeted, rest_after}
use Rattle.gn_bodies.proofs.handler.ReaderHandler.greet.Goals as goal

pub returns-in-Done-clause-taken : goal.returns-in-Done-clause-taken
returns-in-Done-clause-taken g c role b was =
    let e = c.feed-shaken.ensures in
    let is = greeted (greeting_of role) b c.args.piece.now c.args.shake c.feed-shaken.new.self c.feed-shaken.result.state c.pieces_are_one_stream.ensures was.0 e.state e.after in
    c.connect_and_take.ensures.taken role (b ++ c.args.piece.now)
    (rest_after (greeting_of role) b c.args.piece.now c.rest_of.result.now c.feed-shaken.result.used c.args.shake c.pieces_are_one_stream.ensures c.greeting_is_known.ensures was.0 was.1 (is.state_is ∙ c.in-Done.is) e.used c.rest_of.ensures)
