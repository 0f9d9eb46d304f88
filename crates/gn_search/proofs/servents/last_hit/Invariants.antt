use Rattle.std.proofs.Common.{◌≡◌, ◌≤◌, take, reverse}
use Rattle.std.specs.Map.{lookup}
use Rattle.gn_wire.specs.Keys.{is_same_id}
use Rattle.gn_rules.specs.Servents.{servents}
use Rattle.gn_search.specs.Place.{place}
use Rattle.gn_search.specs.Views.{guid}
use Rattle.gn_search.proofs.servents.last_hit.Given as goal

abbrev pub invariant-loop-i : goal.invariant-loop-i
invariant-loop-i g l =
    record {
      bound : l.later ≤ l.i;
      route : l.route ≡ lookup (is_same_id (guid l.x)) (servents (reverse (take l.i l.history)));
      later : l.later ≡ place (is_same_id (guid l.x)) (servents (reverse (take l.i l.history)));
    }
