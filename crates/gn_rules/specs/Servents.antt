-- The servents whose Query Hits were answered Routed, and the route to them.
use Rattle.std.specs.Prelude.{ℕ, Bool, true, false, if◌then◌else◌, List, [], ◌∷◌, take, Option, Some, None}
use Rattle.std.specs.Option.{option_and_then}
use Rattle.std.specs.Map.{lookup, remove_entry}
use Rattle.gn_wire.specs.declared.kind.Guid.{Guid}
use Rattle.gn_wire.specs.declared.kind.Kind.{Kind}
use Rattle.gn_wire.specs.declared.kind.Kind.TheVariants.{QueryHit}
use Rattle.gn_wire.specs.Keys.{is_same_id}
use Rattle.gn_payload.specs.Fields.{hit_servent}
use Rattle.gn_rules.specs.declared.config.Config.{Config}
use Rattle.gn_rules.specs.declared.event.Event.{Event}
use Rattle.gn_rules.specs.declared.event.Event.TheVariants.{Route}
use Rattle.gn_rules.specs.declared.reply.Reply.{Reply}
use Rattle.gn_rules.specs.declared.reply.Reply.TheVariants.{Routed}
use Rattle.gn_rules.specs.declared.receipt.Step.{Step}
use Rattle.gn_rules.specs.Flight.{admission}

-- whether a kind is Query Hit
abbrev pub is_query_hit : Kind → Bool
is_query_hit QueryHit = true
is_query_hit kind = false

-- of a Query Hit that was answered Routed: the servent that it names, and the connection that admitted it
abbrev pub hit_of : {A : Type 0} → List (Step A) → Event A → Reply A → Option (Guid × ℕ)
hit_of earlier (Route t) (Routed sends local) =
    option_and_then (λ a. if is_query_hit a.packet.kind then Some (hit_servent a.packet.payload, a.origin) else None)
    (admission earlier t)
hit_of earlier event reply = None

-- the list of servents after one more hit: its servent comes first, and stands nowhere else
abbrev pub learned : Option (Guid × ℕ) → List (Guid × ℕ) → List (Guid × ℕ)
learned None known = known
learned (Some hit) known = hit ∷ remove_entry (is_same_id hit.0) known

-- the servents of the Query Hits that were answered Routed, each once with its newest hit, the newest first
abbrev pub servents : {A : Type 0} → List (Step A) → List (Guid × ℕ)
servents [] = []
servents (step ∷ earlier) = learned (hit_of earlier step.event step.reply) (servents earlier)

-- the route to a servent: the connection of its newest hit, if it is among the newest N; N may be remembered
abbrev pub servent_route : {A : Type 0} → Config → List (Step A) → Guid → Option ℕ
servent_route s past x = lookup (is_same_id x) (take s.numbers.servents (servents past))
