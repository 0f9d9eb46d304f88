-- How many jobs a queue may hold.
use Rattle.std.specs.Prelude.{◌≡◌, ℕ, ◌≤◌, List, length}
use mathlib.Core.Option.{some}
use lib.ListN.{get_elem?}
use Rattle.gn_stage.specs.Rule.{Known, Invariant, of_desk}

-- whatever the ends of a stage did so far, its queue holds no more jobs than the room that the desk knows of; the desk of a
-- stage knows of no more than its capacity
abbrev pub QueueIsBounded : Type 0 → Type 0
QueueIsBounded J =
    (items : List J) (views : List (Known J)) (port capacity : ℕ) (desk : Known J)
    → Invariant items views
    → get_elem? views port ≡ some desk
    → desk.role ≡ of_desk
    → desk.room ≤ capacity
    → length items ≤ capacity
