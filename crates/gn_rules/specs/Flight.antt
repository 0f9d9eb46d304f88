-- What was admitted, and what of it isn't routed yet.
use Rattle.std.specs.Prelude.{ℕ, Bool, false, ◌==◌, not, if◌then◌else◌, List, [], ◌∷◌, ◌++◌, filter, Option, Some, None}
use Rattle.std.specs.List.{list_any}
use Rattle.std.specs.Option.{option_map_or, option_to_list}
use Rattle.gn_wire.specs.Packet.{Packet}
use Rattle.gn_rules.specs.declared.event.Event.{Event}
use Rattle.gn_rules.specs.declared.event.Event.TheVariants.{Admit}
use Rattle.gn_rules.specs.declared.receipt.Step.{Step}
use Rattle.gn_rules.specs.declared.reply.Reply.{Reply}
use Rattle.gn_rules.specs.History.{admitted_of, is_at, ticket_of}

-- a descriptor, and the connection that admitted it
pub record Admission : Type 0 where
  pub origin : ℕ
  pub packet : Packet

-- what an event admits
abbrev pub admission_of : {A : Type 0} → Event A → Option Admission
admission_of (Admit c d) = Some (record { origin = c; packet = d })
admission_of event = None

-- what was admitted under the ticket t
abbrev pub admission : {A : Type 0} → List (Step A) → ℕ → Option Admission
admission [] t = None
admission (step ∷ earlier) t = if is_at t (admitted_of step.reply) then admission_of step.event else admission earlier t

-- whether an event routes t
abbrev pub is_route : {A : Type 0} → ℕ → Event A → Bool
is_route t event = is_at t (ticket_of event)

-- t was routed
abbrev pub is_routed : {A : Type 0} → List (Step A) → ℕ → Bool
is_routed past t = list_any (λ step. is_at t (ticket_of step.event)) past

-- all tickets that were given, from the first on
abbrev pub tickets : {A : Type 0} → List (Step A) → List ℕ
tickets [] = []
tickets (step ∷ earlier) = tickets earlier ++ option_to_list (admitted_of step.reply)

-- the tickets in flight: admitted and not routed
abbrev pub flying : {A : Type 0} → List (Step A) → List ℕ
flying past = filter (λ t. not (is_routed past t)) (tickets past)

-- the tickets in flight after one more step: without the one that it routes, with the one that it gives
abbrev pub flying_after : {A : Type 0} → Event A → Reply A → List ℕ → List ℕ
flying_after event reply flying = filter (λ t. not (is_route t event)) flying ++ option_to_list (admitted_of reply)

-- what is in flight under the ticket t
abbrev pub in_flight : {A : Type 0} → List (Step A) → ℕ → Option Admission
in_flight past t = if is_routed past t then None else admission past t

-- the tickets in flight that c admitted, whether or not it is still live
abbrev pub flying_from : {A : Type 0} → List (Step A) → ℕ → List ℕ
flying_from past c = filter (λ t. option_map_or (λ a. a.origin == c) (admission past t) false) (flying past)
