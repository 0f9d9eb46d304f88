use Rattle.std.proofs.Common.{◌∙◌, ap, arith, length, map, vec_len}
use Rattle.std.specs.Vec.Iter.{into_iter_items}
use Rattle.gn_start.proofs.CrewLemmas.{all_joined, none_joined, one_joined}
use Rattle.gn_start.proofs.crew.Crew.join.Goals as goal

pub loop-handle-init : goal.loop-handle-init
loop-handle-init g c = record {
  joining = λ first many is.
      let all = c.into_iter-handle-iterator.ensures.into_iter_gives.0 in
      none_joined (λ h. h.promise.start.value.actor.number) first many (vec_len c.args.self.handles) c.args.self.is_lost (into_iter_items c.into_iter-handle-iterator.result) c.none-worked.result
      (ap (map (λ h. h.promise.start.value.actor.number)) all ∙ is.numbers) (omega (arith, ap length all, c.args.self.handles.ok)) is.most c.none-worked.ensures.1 c.none-worked.ensures.0 c.none-worked.ensures.2;
}

pub loop-handle-preserved : goal.loop-handle-preserved
loop-handle-preserved g c = record {
  joining = λ first many is.
      one_joined (λ h. h.promise.start.value.actor.number) first many (vec_len c.args.self.handles) c.args.self.is_lost (into_iter_items c.loop-handle.handle-iterator) (into_iter_items c.next.new.self) c.in-Some.handle c.join.result
      c.loop-handle.worked c.take.new.self (c.loop-handle.invariant.joining first many is) c.in-Some.ensures.steps.0 c.join.ensures c.take.ensures.kept c.take.ensures.fault;
}

pub returns-clause-worked : goal.returns-clause-worked
returns-clause-worked g c = λ first many is.
    all_joined (λ h. h.promise.start.value.actor.number) first many (vec_len c.args.self.handles) c.args.self.is_lost (into_iter_items c.loop-handle.handle-iterator) c.loop-handle.worked
    (omega (arith, c.loop-handle.handle-iterator.rest.ok, c.in-None.ensures.steps.0)) is.whole (c.loop-handle.invariant.joining first many is)

pub returns-clause-fault : goal.returns-clause-fault
returns-clause-fault g c = λ first many links workers is room. (c.loop-handle.invariant.joining first many is).faults links workers room
