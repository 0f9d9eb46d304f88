use Rattle.std.proofs.Common.{◌≡◌, ◌++◌, vec_items}
use Rattle.std.specs.Vec.Iter.{into_iter_items}
use Rattle.gn_stage.proofs.reception.Reception.take_all_home.Given as goal

abbrev pub invariant-loop-home : goal.invariant-loop-home
invariant-loop-home g l =
    record l.self { came = l.self.came ++ into_iter_items l.home-iterator } ≡ record l.initial.self { came = l.initial.self.came ++ vec_items l.fn.homes }
