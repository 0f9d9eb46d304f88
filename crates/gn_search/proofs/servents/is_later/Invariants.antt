use Rattle.std.proofs.Common.{◌≡◌, take, reverse}
use Rattle.gn_wire.specs.Keys.{is_same_id}
use Rattle.gn_rules.specs.Servents.{servents}
use Rattle.gn_search.specs.Place.{is_before}
use Rattle.gn_search.specs.Views.{guid}
use Rattle.gn_search.proofs.servents.is_later.Given as goal

abbrev pub invariant-loop-i : goal.invariant-loop-i
invariant-loop-i g l =
    l.later ≡ is_before (is_same_id (guid l.x)) (is_same_id (guid l.y)) (servents (reverse (take l.i l.history)))
