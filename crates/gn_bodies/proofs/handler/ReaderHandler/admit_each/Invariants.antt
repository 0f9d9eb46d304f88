use Rattle.std.specs.Vec.Iter.{into_iter_items}
use Rattle.gn_bodies.proofs.AdmitLemmas.{IsAdmitting}
use Rattle.gn_bodies.proofs.handler.ReaderHandler.admit_each.Given as goal

abbrev pub invariant-loop-descriptor : goal.invariant-loop-descriptor
invariant-loop-descriptor g l =
    IsAdmitting (into_iter_items l.descriptor-iterator) (into_iter_items l.initial.descriptor-iterator) l.c l.initial.self l.self
