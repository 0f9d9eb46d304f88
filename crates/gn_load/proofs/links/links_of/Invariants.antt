use Rattle.std.proofs.Common.{◌≡◌, ◌++◌}
use Rattle.std.specs.Vec.Iter.{into_iter_items}
use Rattle.gn_load.proofs.links.links_of.Given as goal

abbrev pub invariant-loop-link_input : goal.invariant-loop-link_input
invariant-loop-link_input g l = l.links.items ++ into_iter_items l.link_input-iterator ≡ into_iter_items l.initial.link_input-iterator
