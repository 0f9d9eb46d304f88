-- How a reception stands.
use Rattle.std.specs.Prelude.{ℕ, ◌+◌, Bool, true, List, [], ◌∷◌, ◌++◌}
use Rattle.gn_stage.specs.Ends.{End, Layout}

-- what was made of a stage so far, whether more intakes may be made, and those that came home, in the order in which they came
pub record ReceptionState (J : Type 0) : Type 0 where
  pub made : Layout
  pub is_open : Bool
  pub came : List (End J)

-- a reception that has made no intake yet, of a stage with so many outlets and so much room
abbrev pub new_reception : {J : Type 0} → ℕ → ℕ → ReceptionState J
new_reception outlets capacity = record { made = record { intakes = 0; outlets = outlets; capacity = capacity }; is_open = true; came = [] }

-- it made one intake more
abbrev pub after_intake : {J : Type 0} → ReceptionState J → ReceptionState J
after_intake s = record s { made = record s.made { intakes = s.made.intakes + 1 } }

-- this intake came home to it
abbrev pub after_home : {J : Type 0} → ReceptionState J → End J → ReceptionState J
after_home s e = record s { came = s.came ++ e ∷ [] }
