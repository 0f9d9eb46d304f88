use Rattle.std.proofs.Common.{reverse}
use Rattle.gn_witness.proofs.PacketLemmas.{was_queued}
use Rattle.gn_witness.proofs.packets.was_queued.Goals as goal

pub returns : goal.returns
returns g c = λ taken.
    was_queued c.nothing_from_nowhere.ensures c.args.config.now (reverse c.args.steps.now) c.args.c c.args.packet.now (c.is_legal.ensures c.if-not-is_legal.false)
    (c.was_taken.ensures taken)
