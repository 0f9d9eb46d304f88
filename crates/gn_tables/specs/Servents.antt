-- The route to the servents whose answers were routed.
use Rattle.std.specs.Prelude.{◌≤◌, ℕ, List, ◌∷◌, length, take}
use Rattle.std.specs.List.{IsDistinct}
use Rattle.std.specs.Map.{keys_of, remove_entry}
use Rattle.gn_wire.specs.declared.kind.Guid.{Guid}
use Rattle.gn_wire.specs.Keys.{is_same_id}

-- the servents, the one that answered last first, each with where its answer came from; and how many there may be
pub record Servents : Type 0 where
  pub routes : List (Guid × ℕ)
  pub most : ℕ

-- the table with the servent first, at its new source; where there are too many then, the last one is forgotten
abbrev pub learned : Guid → ℕ → Servents → Servents
learned servent from t = record t { routes = take t.most ((servent, from) ∷ remove_entry (is_same_id servent) t.routes) }

-- what every table keeps: it isn't too long, and no servent stands in it twice
pub record AreServents (t : Servents) : Type 0 where
  pub few : length t.routes ≤ t.most
  pub distinct : IsDistinct is_same_id (keys_of t.routes)
