use Rattle.std.proofs.Common.{rules, List, ℕ, ◌≡◌, ◌<◌, ◌++◌, ◌∙◌, length, take, map, subst}
use Rattle.std.specs.Vec.Iter.{into_iter_items}
use Rattle.gn_wire.specs.Packet.{Packet}
use Rattle.gn_rules.specs.declared.event.Event.TheVariants.{Admit}
use Rattle.gn_bodies.specs.Events.{link_events}
use Rattle.gn_bodies.proofs.AdmitLemmas.{admitting_none, admitting_more, admitting_part}
use Rattle.gn_bodies.proofs.handler.ReaderHandler.admit_each.Goals as goal

pub loop-descriptor-init : goal.loop-descriptor-init
loop-descriptor-init g c = admitting_none (into_iter_items c.into_iter-descriptor-iterator.result) c.args.c c.args.self.now

pub loop-descriptor-preserved : goal.loop-descriptor-preserved
loop-descriptor-preserved g c =
    admitting_more (into_iter_items c.loop-descriptor.descriptor-iterator) (into_iter_items c.next.new.self) (into_iter_items c.into_iter-descriptor-iterator.result) c.in-Some.descriptor c.args.c c.args.self.now c.loop-descriptor.self c.admit.new.self
    c.in-Some.ensures.steps.0 c.loop-descriptor.invariant (search rules) c.admit.ensures.goes_on.numbers c.admit.ensures.goes_on.connection c.admit.ensures.goes_on.settled

pub returns-in-Err-clause-not_live : goal.returns-in-Err-clause-not_live
returns-in-Err-clause-not_live g c is =
    subst (λ (w : List Packet). (n : ℕ) × (n < length w) × (link_events c.admit.new.self.actor ≡ link_events c.args.self.now.actor ++ map (Admit c.args.c) (take n w))) c.into_iter-descriptor-iterator.ensures.into_iter_gives.0
    (admitting_part (into_iter_items c.loop-descriptor.descriptor-iterator) (into_iter_items c.next.new.self) (into_iter_items c.into_iter-descriptor-iterator.result) c.in-Some.descriptor c.args.c c.args.self.now c.loop-descriptor.self c.admit.new.self
    c.in-Some.ensures.steps.0 c.loop-descriptor.invariant (c.in-Err.ensures.not_live is))

pub returns-in-Err-clause-goes_on : goal.returns-in-Err-clause-goes_on
returns-in-Err-clause-goes_on g c =
    let was = c.loop-descriptor.invariant in
    let more = c.admit.ensures.goes_on in
    record {
      numbers = (more.numbers.0 ∙ was.numbers.0, more.numbers.1 ∙ was.numbers.1);
      connection = λ d made. more.connection d (was.connection d made);
      settled = λ jobs is. more.settled jobs (was.settled jobs is);
    }

pub returns-clause-goes_on : goal.returns-clause-goes_on
returns-clause-goes_on g c =
    let was = c.loop-descriptor.invariant in
    record { numbers = was.numbers; connection = was.connection; settled = was.settled }
