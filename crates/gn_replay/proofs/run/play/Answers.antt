use Rattle.std.proofs.Common.{[], refl, reverse}
use Rattle.gn_replay.specs.ReplayText.{capture_plays}
use Rattle.gn_replay.proofs.RunLemmas.{part_alone, played_alone}
use Rattle.gn_replay.proofs.run.play.Goals as goal

pub returns-clause-played : goal.returns-clause-played
returns-clause-played g c =
    played_alone c.play_as.result [] (capture_plays c.args.capture.config c.args.capture.lines.items) [] (λ x. reverse (g.C.RouterCore.steps x.core)) (λ x. x.refusals)
    (g.W.Sink.state c.args.sink.now).written (g.W.Sink.state c.play_as.new.sink).written refl refl c.play_as.ensures.played

pub returns-clause-err : goal.returns-clause-err
returns-clause-err g c =
    part_alone c.play_as.result [] (capture_plays c.args.capture.config c.args.capture.lines.items).text []
    (g.W.Sink.state c.args.sink.now).written (g.W.Sink.state c.play_as.new.sink).written refl refl c.play_as.ensures.err
