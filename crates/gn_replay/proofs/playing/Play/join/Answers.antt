use Rattle.gn_replay.proofs.LinkLemmas.{was_joined}
use Rattle.gn_replay.proofs.playing.Play.join.Goals as goal

pub returns : goal.returns
returns g c =
    was_joined c.args.self.now c.happen.new.self c.in-Some.connection c.in_ok-inbound.inbound c.in_ok-connection.field-0.connection
    c.in_ok-connection.ensures.after c.in_ok-connection.ensures.outcome.connection c.in-Some.is c.in_ok-inbound.ensures
