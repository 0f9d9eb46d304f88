use Rattle.std.proofs.Common.{subst}
use Rattle.gn_hub.specs.ActorState.{ActorState}
use Rattle.gn_bodies.specs.Writing.{HasNext}
use Rattle.gn_bodies.proofs.WrittenLemmas.{asked_next}
use Rattle.gn_bodies.proofs.caller.Caller.next_out.Goals as goal

pub returns-clause-next : goal.returns-clause-next
returns-clause-next g c =
    let asked = asked_next c.args.batch c.args.c c.in_ok-next.next c.next_batch.new.idle c.self.inside.actor c.next_batch.new.me c.in_ok-next.ensures.packet c.in_ok-next.ensures.idle c.in_ok-next.ensures.closed in
    subst (λ (me : ActorState _). HasNext c.args.batch c.args.c c.in_ok-next.next c.next_batch.new.idle me c.next_batch.new.me) c.self.view_is asked
