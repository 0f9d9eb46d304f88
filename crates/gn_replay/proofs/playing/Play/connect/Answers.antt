use Rattle.gn_replay.proofs.LinkLemmas.{connected}
use Rattle.gn_replay.proofs.playing.Play.connect.Goals as goal

pub returns-in-Some : goal.returns-in-Some
returns-in-Some g c =
    connected c.args.self.now c.happen.new.self c.take_given.new.self c.args.i c.in-Some.connection c.args.inbound c.args.given.descriptors.items c.args.given.fault
    c.in_ok-happen.field-0.connection c.take_given.result
    c.in_ok-happen.ensures.after c.in_ok-happen.ensures.outcome.connection c.in-Some.is c.take_given.ensures
