use Rattle.gn_replay.proofs.LinkLemmas.{greets_more, greets_refused, greets_done}
use Rattle.gn_replay.proofs.playing.Play.greet.Goals as goal

pub returns-in-Greeting : goal.returns-in-Greeting
returns-in-Greeting g c =
    let given = c.in_ok-inbound.given in
    greets_more c.args.self.now c.args.self.now c.args.i c.args.piece.now c.args.inbound c.in_ok-inbound.inbound given.opened given.descriptors.items given.fault
    c.in_ok-inbound.ensures c.in-Greeting.field-0 c.in-Greeting.is

pub returns-in_ok-say-in-Refused : goal.returns-in_ok-say-in-Refused
returns-in_ok-say-in-Refused g c =
    let given = c.in_ok-inbound.given in
    greets_refused c.args.self.now c.say.new.self c.args.i c.args.piece.now c.args.inbound c.in_ok-inbound.inbound given.opened given.descriptors.items given.fault
    c.in_ok-inbound.ensures c.in-Refused.is c.in_ok-say-in-Refused.ensures

pub returns-in-Open : goal.returns-in-Open
returns-in-Open g c =
    let given = c.in_ok-inbound.given in
    greets_done c.args.self.now c.connect.new.self c.args.i c.args.piece.now c.args.inbound c.in_ok-inbound.inbound given.opened given.descriptors.items given.fault
    c.in_ok-inbound.ensures c.in-Open.field-0 c.connect.result c.in-Open.is c.connect.ensures
