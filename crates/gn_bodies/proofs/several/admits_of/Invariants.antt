use Rattle.std.proofs.Common.{◌≡◌, ◌++◌, map, vec_items}
use Rattle.std.specs.Vec.Iter.{into_iter_items}
use Rattle.gn_rules.specs.declared.event.Event.TheVariants.{Admit}
use Rattle.gn_bodies.proofs.several.admits_of.Given as goal

abbrev pub invariant-loop-descriptor : goal.invariant-loop-descriptor
invariant-loop-descriptor g l =
    vec_items l.events ++ map (Admit l.c) (into_iter_items l.descriptor-iterator) ≡ map (Admit l.c) (into_iter_items l.initial.descriptor-iterator)
