-- The law that the route to a servent is that of its last Query Hit.
use Rattle.std.specs.Prelude.{◌≡◌, ◌+◌, ℕ, nat_lt, if◌then◌else◌, List, [], ◌∷◌, ◌++◌, None}
use Rattle.std.specs.List.{list_any}
use Rattle.std.specs.Map.{lookup}
use Rattle.std.specs.Option.{option_to_list}
use Rattle.gn_wire.specs.declared.kind.Guid.{Guid}
use Rattle.gn_wire.specs.Keys.{is_same_id}
use Rattle.gn_rules.specs.declared.config.Config.{Config}
use Rattle.gn_rules.specs.declared.receipt.Step.{Step}
use Rattle.gn_rules.specs.Servents.{hit_of, servent_route}

-- all Query Hits that were routed, the newest first: of each its servent, and the connection that admitted it
abbrev pub hits : {A : Type 0} → List (Step A) → List (Guid × ℕ)
hits [] = []
hits (step ∷ earlier) = option_to_list (hit_of earlier step.event step.reply) ++ hits earlier

-- the hits after the last hit of x
abbrev pub hits_after : Guid → List (Guid × ℕ) → List (Guid × ℕ)
hits_after x [] = []
hits_after x (hit ∷ earlier) = if is_same_id x hit.0 then [] else hit ∷ hits_after x earlier

-- how many different servents these hits are of: a hit counts where no earlier one is of the same servent
abbrev pub servent_count : List (Guid × ℕ) → ℕ
servent_count [] = 0
servent_count (hit ∷ earlier) = servent_count earlier + (if list_any (λ other. is_same_id hit.0 other.0) earlier then 0 else 1)

-- how many other servents have a hit after the last hit of x
abbrev pub others : {A : Type 0} → List (Step A) → Guid → ℕ
others past x = servent_count (hits_after x (hits past))

-- the route to x is the connection that admitted its last hit, where fewer others than are remembered have one after it
abbrev pub ServentRouteIsLast : Type 0 → Type 0
ServentRouteIsLast A =
    (s : Config) (past : List (Step A)) (x : Guid)
    → servent_route s past x ≡ (if nat_lt (others past x) s.numbers.servents then lookup (is_same_id x) (hits past) else None)
