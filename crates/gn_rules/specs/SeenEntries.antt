-- The descriptors that a router remembers, and where they came from.
use Rattle.std.specs.Prelude.{ℕ, Bool, true, false, if◌then◌else◌, List, [], ◌∷◌, ◌++◌, take, is_some, Option, Some, None}
use Rattle.std.specs.Option.{option_to_list, option_and_then}
use Rattle.std.specs.Map.{lookup}
use Rattle.gn_wire.specs.declared.key.Key.{Key}
use Rattle.gn_wire.specs.declared.kind.Kind.{Kind}
use Rattle.gn_wire.specs.Keys.{is_same_key, key_of}
use Rattle.gn_rules.specs.declared.config.Config.{Config}
use Rattle.gn_rules.specs.declared.event.Event.{Event}
use Rattle.gn_rules.specs.declared.event.Event.TheVariants.{Route, Originate}
use Rattle.gn_rules.specs.declared.reply.DropReason.TheVariants.{Malformed, Duplicate}
use Rattle.gn_rules.specs.declared.reply.Reply.{Reply}
use Rattle.gn_rules.specs.declared.reply.Reply.TheVariants.{Dropped, Routed, Sent}
use Rattle.gn_rules.specs.declared.receipt.Step.{Step}
use Rattle.gn_rules.specs.declared.routing.Routing.{Routing}
use Rattle.gn_rules.specs.declared.routing.Routing.TheVariants.{Floods, Pushed}
use Rattle.gn_rules.specs.Flight.{admission}
use Rattle.gn_rules.specs.Routings.{routing_of}

-- a request's key is remembered where it is Routed, a Push's unless it is dropped as Malformed or Duplicate, no other's
abbrev pub keeps_routed : {A : Type 0} → Routing → Reply A → Bool
keeps_routed Floods (Routed sends local) = true
keeps_routed Pushed (Dropped Malformed) = false
keeps_routed Pushed (Dropped Duplicate) = false
keeps_routed Pushed reply = true
keeps_routed routing reply = false

-- whether a Route with this reply makes the descriptor's key remembered
abbrev pub keeps : {A : Type 0} → Kind → Reply A → Bool
keeps kind reply = keeps_routed (routing_of kind) reply

-- the key and source that a step adds: for a Route that `keeps`, the descriptor's key and the connection that admitted it; for an
-- Originate, the descriptor's key and 0
abbrev pub entry_of : {A : Type 0} → List (Step A) → Event A → Reply A → Option (Key × ℕ)
entry_of earlier (Route t) reply =
    option_and_then (λ a. if keeps a.packet.kind reply then Some (key_of a.packet, a.origin) else None) (admission earlier t)
entry_of earlier (Originate d) (Sent sends) = Some (key_of d, 0)
entry_of earlier event reply = None

-- these entries of all steps, the newest first
abbrev pub seen_entries : {A : Type 0} → List (Step A) → List (Key × ℕ)
seen_entries [] = []
seen_entries (step ∷ earlier) = option_to_list (entry_of earlier step.event step.reply) ++ seen_entries earlier

-- the source of a key: that of its newest entry, if that is among the newest N; N keys may be remembered
abbrev pub source : {A : Type 0} → Config → List (Step A) → Key → Option ℕ
source s past key = lookup (is_same_key key) (take s.numbers.seen (seen_entries past))

-- a key is remembered where it has a source
abbrev pub is_remembered : {A : Type 0} → Config → List (Step A) → Key → Bool
is_remembered s past key = is_some (source s past key)
