use Rattle.std.specs.Vec.Iter.{into_iter_items}
use Rattle.gn_replay.proofs.AdmitLemmas.{IsAdmitting}
use Rattle.gn_replay.proofs.playing.Play.admit_all.Given as goal

abbrev pub invariant-loop-descriptor : goal.invariant-loop-descriptor
invariant-loop-descriptor g l = IsAdmitting l.fn.self l.self l.c (into_iter_items l.descriptor-iterator) l.fn.descriptors.items
