use Rattle.std.proofs.Common.{◌∙◌, ap, Some, []}
use Rattle.gn_hub.specs.Calls.{due}
use Rattle.gn_hub.proofs.StepLemmas.{closed_same, drained, none_same, outgoing_packet, packet_taken, stops}
use Rattle.gn_hub.specs.declared.wakes.Wakes.TheVariants.{Nobody}
use Rattle.gn_hub.proofs.WakingLemmas.{all_woken, take_leaves, unchanged}
use Rattle.gn_hub.proofs.hub.Hub.outgoing_answered.Goals as goal

pub returns-in-Ok-Some-Packet-clause-packet : goal.returns-in-Ok-Some-Packet-clause-packet
returns-in-Ok-Some-Packet-clause-packet g c = λ is. packet_taken (due c.args.self.now c.args.c) c.in-Ok-Some-Packet.field-0 c.args.c c.args.self.now c.outgoing.new.self c.args.me.now c.outgoing.new.me c.answers_fit.ensures (c.in-Ok-Some-Packet.field-0-is ∙ ap Some c.in-Ok-Some-Packet.field-0-0-is) c.in-Ok-Some-Packet.ensures.made

pub returns-in-Ok-Some-Packet-clause-drained : goal.returns-in-Ok-Some-Packet-clause-drained
returns-in-Ok-Some-Packet-clause-drained g c = λ no. absurd (cc)

pub returns-in-Ok-Some-Packet-clause-idle : goal.returns-in-Ok-Some-Packet-clause-idle
returns-in-Ok-Some-Packet-clause-idle g c = λ no. absurd (cc)

pub returns-in-Ok-Some-Packet-clause-closed : goal.returns-in-Ok-Some-Packet-clause-closed
returns-in-Ok-Some-Packet-clause-closed g c = λ no. absurd (cc)

pub returns-in-Ok-Some-Packet-clause-later : goal.returns-in-Ok-Some-Packet-clause-later
returns-in-Ok-Some-Packet-clause-later g c = λ no. absurd (cc)

pub returns-in-Ok-Some-Packet-clause-refused : goal.returns-in-Ok-Some-Packet-clause-refused
returns-in-Ok-Some-Packet-clause-refused g c = tt

pub returns-in-Ok-Some-Packet-clause-quiet : goal.returns-in-Ok-Some-Packet-clause-quiet
returns-in-Ok-Some-Packet-clause-quiet g c =
    let made = outgoing_packet (due c.args.self.now c.args.c) c.in-Ok-Some-Packet.field-0 c.args.c c.args.self.now c.outgoing.new.self c.args.me.now c.outgoing.new.me (c.in-Ok-Some-Packet.field-0-is ∙ ap Some c.in-Ok-Some-Packet.field-0-0-is) c.in-Ok-Some-Packet.ensures.made in
    take_leaves c.args.c c.args.self.now c.outgoing.new.self c.args.me.now c.outgoing.new.me c.wakes_at_least.result c.answers_fit.ensures made c.wakes_at_least.ensures

pub returns-in-Ok-Some-clause-packet : goal.returns-in-Ok-Some-clause-packet
returns-in-Ok-Some-clause-packet g c = λ is. packet_taken (due c.args.self.now c.args.c) c.in-Ok-Some.field-0 c.args.c c.args.self.now c.outgoing.new.self c.args.me.now c.outgoing.new.me c.answers_fit.ensures (c.in-Ok-Some.field-0-is ∙ is) c.in-Ok-Some.ensures.made

pub returns-in-Ok-Some-clause-drained : goal.returns-in-Ok-Some-clause-drained
returns-in-Ok-Some-clause-drained g c = λ is. drained (due c.args.self.now c.args.c) c.in-Ok-Some.field-0 c.args.c c.args.self.now c.outgoing.new.self c.args.me.now c.outgoing.new.me (c.in-Ok-Some.field-0-is ∙ is) c.in-Ok-Some.ensures.made

pub returns-in-Ok-Some-clause-idle : goal.returns-in-Ok-Some-clause-idle
returns-in-Ok-Some-clause-idle g c = λ is. c.in-Ok-Some.ensures.idle (c.in-Ok-Some.field-0-is ∙ is)

pub returns-in-Ok-Some-clause-closed : goal.returns-in-Ok-Some-clause-closed
returns-in-Ok-Some-clause-closed g c = λ is. closed_same (due c.args.self.now c.args.c) c.in-Ok-Some.field-0 c.args.c c.args.self.now c.outgoing.new.self c.args.me.now c.outgoing.new.me (c.in-Ok-Some.field-0-is ∙ is) c.in-Ok-Some.ensures.made

pub returns-in-Ok-Some-clause-later : goal.returns-in-Ok-Some-clause-later
returns-in-Ok-Some-clause-later g c = λ no. absurd (cc)

pub returns-in-Ok-Some-clause-refused : goal.returns-in-Ok-Some-clause-refused
returns-in-Ok-Some-clause-refused g c = tt

pub returns-in-Ok-Some-clause-quiet : goal.returns-in-Ok-Some-clause-quiet
returns-in-Ok-Some-clause-quiet g c = all_woken [] c.args.self.now c.outgoing.new.self

pub returns-in-Ok-None-clause-packet : goal.returns-in-Ok-None-clause-packet
returns-in-Ok-None-clause-packet g c = λ no. absurd (cc)

pub returns-in-Ok-None-clause-drained : goal.returns-in-Ok-None-clause-drained
returns-in-Ok-None-clause-drained g c = λ no. absurd (cc)

pub returns-in-Ok-None-clause-idle : goal.returns-in-Ok-None-clause-idle
returns-in-Ok-None-clause-idle g c = λ no. absurd (cc)

pub returns-in-Ok-None-clause-closed : goal.returns-in-Ok-None-clause-closed
returns-in-Ok-None-clause-closed g c = λ no. absurd (cc)

pub returns-in-Ok-None-clause-later : goal.returns-in-Ok-None-clause-later
returns-in-Ok-None-clause-later g c = λ is. (none_same (due c.args.self.now c.args.c) c.in-Ok-None.field-0 c.args.c c.args.self.now c.outgoing.new.self c.args.me.now c.outgoing.new.me c.in-Ok-None.field-0-is c.in-Ok-None.ensures.made).1

pub returns-in-Ok-None-clause-refused : goal.returns-in-Ok-None-clause-refused
returns-in-Ok-None-clause-refused g c = tt

pub returns-in-Ok-None-clause-quiet : goal.returns-in-Ok-None-clause-quiet
returns-in-Ok-None-clause-quiet g c = unchanged Nobody [] c.args.self.now c.outgoing.new.self (none_same (due c.args.self.now c.args.c) c.in-Ok-None.field-0 c.args.c c.args.self.now c.outgoing.new.self c.args.me.now c.outgoing.new.me c.in-Ok-None.field-0-is c.in-Ok-None.ensures.made).0

pub returns-in-Err-clause-packet : goal.returns-in-Err-clause-packet
returns-in-Err-clause-packet g c = rw c.refused.ensures.answer tt

pub returns-in-Err-clause-drained : goal.returns-in-Err-clause-drained
returns-in-Err-clause-drained g c = rw c.refused.ensures.answer tt

pub returns-in-Err-clause-idle : goal.returns-in-Err-clause-idle
returns-in-Err-clause-idle g c = rw c.refused.ensures.answer tt

pub returns-in-Err-clause-closed : goal.returns-in-Err-clause-closed
returns-in-Err-clause-closed g c = rw c.refused.ensures.answer tt

pub returns-in-Err-clause-later : goal.returns-in-Err-clause-later
returns-in-Err-clause-later g c = rw c.refused.ensures.answer tt

pub returns-in-Err-clause-refused : goal.returns-in-Err-clause-refused
returns-in-Err-clause-refused g c = rw c.refused.ensures.answer (stops c.in-Err.refusal c.args.self.now c.in-Err.ensures.made.1, c.in-Err.ensures.made.3)

pub returns-in-Err-clause-quiet : goal.returns-in-Err-clause-quiet
returns-in-Err-clause-quiet g c = unchanged c.refused.result.wakes [] c.args.self.now c.outgoing.new.self c.in-Err.ensures.made.2
