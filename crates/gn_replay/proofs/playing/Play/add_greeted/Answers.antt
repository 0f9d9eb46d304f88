use Rattle.gn_replay.specs.declared.link.Link.TheVariants.{Greeting}
use Rattle.gn_replay.specs.Pieces.{awaits}
use Rattle.gn_replay.proofs.LineLemmas.{awaiting, played_link}
use Rattle.gn_replay.proofs.SayLemmas.{then_so}
use Rattle.gn_replay.proofs.playing.Play.add_greeted.Goals as goal

pub returns : goal.returns
returns g c =
    then_so c.add_link.result
    (λ linked states are. played_link c.args.self.now c.args.self.now c.add_link.new.self (Greeting c.in_ok-inbound.inbound) (awaits c.args.self.now.past) states
    (awaiting c.args.self.now c.in_ok-inbound.inbound c.in_ok-inbound.ensures) linked are)
    c.add_link.ensures
