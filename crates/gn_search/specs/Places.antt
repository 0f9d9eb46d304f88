-- The places at which live connections stand among the steps: each at the step that made it.
use Rattle.std.specs.Prelude.{ℕ, List, [], ◌∷◌, ◌++◌, drop, filter, reverse}
use Rattle.std.specs.Option.{option_to_list}
use Rattle.gn_rules.specs.declared.receipt.Step.{Step}
use Rattle.gn_rules.specs.History.{connected_of, live}

-- all connections that the steps make, in order
abbrev pub made_in : {A : Type 0} → List (Step A) → List ℕ
made_in [] = []
made_in (step ∷ steps) = option_to_list (connected_of step.reply) ++ made_in steps

-- those that this step or a later one makes, and that are live after the last one
abbrev pub live_from : {A : Type 0} → List (Step A) → ℕ → List ℕ
live_from steps place = filter (live (reverse steps)) (made_in (drop place steps))
