use Rattle.std.proofs.Common.{arith}
use Rattle.std.specs.Vec.Iter.{into_iter_items}
use Rattle.gn_replay.proofs.AdmitLemmas.{admitted_last, admitted_one, admitting_done, admitting_start}
use Rattle.gn_replay.proofs.playing.Play.admit_all.Goals as goal

pub loop-descriptor-init : goal.loop-descriptor-init
loop-descriptor-init g c =
    admitting_start c.args.self.now c.args.c (into_iter_items c.into_iter-descriptor-iterator.result) c.args.descriptors.items
    c.into_iter-descriptor-iterator.ensures.into_iter_gives.0

pub loop-descriptor-preserved : goal.loop-descriptor-preserved
loop-descriptor-preserved g c =
    admitted_one c.args.self.now c.loop-descriptor.self c.happen.new.self c.args.c c.in-Some.descriptor (into_iter_items c.loop-descriptor.descriptor-iterator)
    (into_iter_items c.next.new.self) c.args.descriptors.items c.in_ok-outcome.outcome c.in-Some.ensures.steps.0 c.loop-descriptor.invariant
    c.in_ok-outcome.ensures.outcome c.in_ok-outcome.ensures.after c.if-outcome.false

pub returns-then-outcome : goal.returns-then-outcome
returns-then-outcome g c =
    admitted_last c.args.self.now c.loop-descriptor.self c.happen.new.self c.args.c c.in-Some.descriptor (into_iter_items c.loop-descriptor.descriptor-iterator)
    (into_iter_items c.next.new.self) c.args.descriptors.items c.in_ok-outcome.outcome c.in-Some.ensures.steps.0 c.loop-descriptor.invariant
    c.in_ok-outcome.ensures.outcome c.in_ok-outcome.ensures.after c.if-outcome.true

pub returns : goal.returns
returns g c =
    admitting_done c.args.self.now c.loop-descriptor.self c.args.c (into_iter_items c.loop-descriptor.descriptor-iterator) c.args.descriptors.items
    (omega (arith, c.loop-descriptor.descriptor-iterator.rest.ok, c.in-None.ensures.steps)) c.loop-descriptor.invariant
