use Rattle.gn_replay.specs.Pieces.{joins}
use Rattle.gn_replay.proofs.LineLemmas.{played_link}
use Rattle.gn_replay.proofs.SayLemmas.{then_so}
use Rattle.gn_replay.proofs.playing.Play.add_joined.Goals as goal

pub returns : goal.returns
returns g c =
    then_so c.add_link.result
    (λ linked states are. played_link c.args.self.now c.join.new.self c.add_link.new.self c.in_ok-link.link (joins c.args.self.now.settings c.args.self.now.past) states c.in_ok-link.ensures linked are)
    c.add_link.ensures
