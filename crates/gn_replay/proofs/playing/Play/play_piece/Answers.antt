use Rattle.gn_replay.proofs.LineLemmas.{played_piece, played_none}
use Rattle.gn_replay.proofs.SayLemmas.{then_so}
use Rattle.gn_replay.proofs.playing.Play.play_piece.Goals as goal

pub returns-in_default : goal.returns-in_default
returns-in_default g c =
    then_so c.say.result (λ printed states are. played_none c.args.self.now c.say.new.self c.args.i c.args.piece.now states c.in_default.ensures.none printed are) c.say.ensures

pub returns : goal.returns
returns g c = λ states are.
    played_piece c.args.self.now c.take_link-link.new.self c.feed_link.new.self c.put_link.new.self c.args.i c.in-Some.at c.args.piece.now
    c.take_link-link.result c.in_ok-kept.kept states c.in-Some.ensures.place c.in-Some.ensures.there c.take_link-link.ensures.taken c.take_link-link.ensures.left
    c.in_ok-kept.ensures c.put_link.ensures are
