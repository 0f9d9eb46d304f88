-- Which packet an event speaks of, by what was admitted before.
use Rattle.std.specs.Prelude.{ℕ, if◌then◌else◌, List, [], ◌∷◌, Option, Some, None}
use Rattle.std.specs.declared.alloc.Global.{Global}
use Rattle.gn_rules.specs.Flight.{Admission, admission_of, is_route}
use Rattle.gn_rules.specs.History.{admitted_of, is_at}
use Rattle.gn_rules.specs.declared.event.Event.{Event}
use Rattle.gn_rules.specs.declared.event.Event.TheVariants as event
use Rattle.gn_rules.specs.declared.receipt.Step.{Step}

-- what waits under the ticket t after these steps: what was last admitted under it, unless it was routed since
abbrev pub waiting : List (Step Global) → ℕ → Option Admission
waiting [] t = None
waiting (step ∷ earlier) t =
    if is_at t (admitted_of step.reply) then admission_of step.event
    else (if is_route t step.event then None else waiting earlier t)

-- the packet that an event speaks of, and the connection that brought it, where this waits under each ticket; an own request is from 0
abbrev pub subject : (ℕ → Option Admission) → Event Global → Option Admission
subject waits (event.Admit c d) = Some (record { origin = c; packet = d })
subject waits (event.Route t) = waits t
subject waits (event.Originate d) = Some (record { origin = 0; packet = d })
subject waits event = None
