use Rattle.std.proofs.Common.{◌∙◌}
use Rattle.std.proofs.lemmas.Result.{IfOk-weaker}
use Rattle.gn_shake.specs.Greeting.{greeting_of}
use Rattle.gn_inbound.proofs.InboundLemmas.{greeted, rest_after}
use Rattle.gn_inbound.proofs.inbound.greet.Goals as goal

pub returns-in-Done : goal.returns-in-Done
returns-in-Done g c = IfOk-weaker c.open.result _ _ (λ r given role b was.
    let e = c.feed-shaken.ensures in
    let is = greeted (greeting_of role) b c.args.piece.now c.args.shake c.feed-shaken.new.self c.feed-shaken.result.state c.pieces_are_one_stream.ensures was.1 e.state e.after in
    given role b c.args.piece.now was.0
    (rest_after (greeting_of role) b c.args.piece.now c.rest_of.result.now c.feed-shaken.result.used c.args.shake c.pieces_are_one_stream.ensures c.greeting_is_known.ensures was.1 was.0 (is.state_is ∙ c.in-Done.is) e.used c.rest_of.ensures))
    c.open.ensures
