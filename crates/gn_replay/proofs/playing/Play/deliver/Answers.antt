use Rattle.gn_replay.proofs.LinkLemmas.{delivered}
use Rattle.gn_replay.proofs.playing.Play.deliver.Goals as goal

pub returns : goal.returns
returns g c =
    let given = c.in_ok-inbound.given in
    delivered c.args.self.now c.take_given.new.self c.args.i c.args.connection c.args.piece.now c.args.inbound c.in_ok-inbound.inbound
    given.opened given.descriptors.items given.fault c.take_given.result c.in_ok-inbound.ensures c.take_given.ensures
