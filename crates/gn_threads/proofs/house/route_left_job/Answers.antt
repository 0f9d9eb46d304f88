use Rattle.std.proofs.Common.{ap, refl}
use Rattle.gn_bodies.specs.Events.{link_events}
use Rattle.gn_hub.specs.ActorState.{ActorState}
use Rattle.gn_bodies.proofs.EventLemmas.{events-receipt}
use Rattle.gn_threads.proofs.HouseLemmas.{no_event_more}
use Rattle.gn_threads.proofs.house.route_left_job.Goals as goal

pub returns-in-Ok-clause-routed : goal.returns-in-Ok-clause-routed
returns-in-Ok-clause-routed g c = rw (← c.job.view_is) (events-receipt c.args.me.now c.route-answer.new.me _ c.in-Ok.ensures.answer.3)

pub returns-in-Ok-clause-alone : goal.returns-in-Ok-clause-alone
returns-in-Ok-clause-alone g c =
    let more = c.in-Ok.ensures.answer.3 in
    (ap (λ (me : ActorState _). me.number) more, no_event_more c.args.me.now c.route-answer.new.me _ refl more)

pub returns-in-Err-clause-alone : goal.returns-in-Err-clause-alone
returns-in-Err-clause-alone g c =
    let same = c.in-Err.ensures.answer.1 in
    (ap (λ (me : ActorState _). me.number) same, ap (λ (me : ActorState _). link_events me) same)
