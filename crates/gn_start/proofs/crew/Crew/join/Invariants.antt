use Rattle.std.proofs.Common.{ℕ, vec_len}
use Rattle.std.specs.Vec.Iter.{into_iter_items}
use Rattle.gn_start.specs.Crews.{IsCrewOf}
use Rattle.gn_start.proofs.CrewLemmas.{Joining}
use Rattle.gn_start.proofs.crew.Crew.join.Given as goal

abbrev pub invariant-loop-handle : goal.invariant-loop-handle
invariant-loop-handle g l = record {
  joining : (first many : ℕ) → IsCrewOf first many l.fn.self → Joining (λ h. h.promise.start.value.actor.number) first many (vec_len l.fn.self.handles) l.fn.self.is_lost (into_iter_items l.handle-iterator) l.worked;
}
