-- What is said of a descriptor by the reply to its Route.
use Rattle.std.proofs.Common.{◌≡◌, Bool, true, false, cond, List, refl}
use Rattle.std.specs.Option.{option_map_or}
use Rattle.gn_wire.specs.declared.kind.Guid.{Guid}
use Rattle.gn_wire.specs.declared.kind.Kind.{Kind}
use Rattle.gn_wire.specs.declared.kind.Kind.TheVariants.{QueryHit, Unknown}
use Rattle.gn_wire.specs.Keys.{is_same_id, key_of}
use Rattle.gn_payload.specs.declared.checked.Verdict.TheVariants.{Sound, Malformed, UnknownKind}
use Rattle.gn_payload.specs.Fields.{push_servent}
use Rattle.gn_payload.specs.Reading.{has_reading, is_known}
use Rattle.gn_rules.specs.declared.config.Config.{Config}
use Rattle.gn_rules.specs.declared.receipt.Step.{Step}
use Rattle.gn_rules.specs.declared.reply.DropReason.TheVariants as reason
use Rattle.gn_rules.specs.declared.reply.Reply.TheVariants.{Dropped}
use Rattle.gn_rules.specs.declared.routing.Routing.{Routing}
use Rattle.gn_rules.specs.declared.routing.Routing.TheVariants.{Floods, Pushed}
use Rattle.gn_rules.specs.Answer.{decision_reply}
use Rattle.gn_rules.specs.Decision.{Decision, Drop, Local, Flood, checks, decide, decide_checked, decide_routed}
use Rattle.gn_rules.specs.Flight.{Admission}
use Rattle.gn_rules.specs.Routings.{routing_of}
use Rattle.gn_rules.specs.SeenEntries.{is_remembered, keeps, keeps_routed}
use Rattle.gn_rules.specs.Servents.{is_query_hit, servent_route}

-- a kind that passes the test is Query Hit
pub hit_is : (kind : Kind) → is_query_hit kind ≡ true → kind ≡ QueryHit
hit_is QueryHit e = refl
hit_is kind e = absurd (cc)

-- neither a duplicate nor what is malformed is kept
never_kept : (A : Type 0) (routing : Routing) → (keeps_routed {A = A} routing (Dropped reason.Duplicate) ≡ false) × (keeps_routed {A = A} routing (Dropped reason.Malformed) ≡ false)
never_kept A Floods = (refl, refl)
never_kept A Pushed = (refl, refl)
never_kept A routing = (refl, refl)

-- nor is what is of no known kind
unknown_goes : (A : Type 0) (kind : Kind) → is_known kind ≡ false → keeps {A = A} kind (Dropped reason.UnknownKind) ≡ true → ⊥
unknown_goes A (Unknown code) unread h = cc
unknown_goes A kind unread h = cc

module _ {A : Type 0} (s : Config) (past : List (Step A)) (a : Admission) where
  -- what is kept is no duplicate
  new_if_kept : (routing : Routing) (remembered : Bool) (other : Decision)
      → keeps_routed routing (decision_reply s past a (cond remembered (Drop reason.Duplicate) other)) ≡ true → remembered ≡ false
  new_if_kept routing true other h = let gone = (never_kept A routing).0 in absurd (cc)
  new_if_kept routing false other h = refl

  sound_is_new : (routing : Routing) → keeps_routed routing (decision_reply s past a (decide_routed s past a routing)) ≡ true → is_remembered s past (key_of a.packet) ≡ false
  sound_is_new Floods h = new_if_kept Floods (is_remembered s past (key_of a.packet)) Flood h
  sound_is_new Pushed h =
      let servent : Guid = push_servent a.packet.payload in
      let far : Decision = option_map_or (checks s past a) (servent_route s past servent) (Drop reason.NoRoute) in
      new_if_kept Pushed (is_remembered s past (key_of a.packet)) (cond (is_same_id servent s.own.servent) Local far) h
  sound_is_new routing h = absurd (cc)

  kept_is_new : (known read : Bool) → is_known a.packet.kind ≡ known
      → keeps a.packet.kind (decision_reply s past a (decide_checked s past a (cond known (cond read Sound Malformed) UnknownKind))) ≡ true
      → is_remembered s past (key_of a.packet) ≡ false
  kept_is_new true true e h = sound_is_new (routing_of a.packet.kind) h
  kept_is_new true false e h = let gone = (never_kept A (routing_of a.packet.kind)).1 in absurd (cc)
  kept_is_new false read e h = absurd (unknown_goes A a.packet.kind e h)

  -- the key of what a Route keeps was not remembered
  pub key_is_new : keeps a.packet.kind (decision_reply s past a (decide s past a)) ≡ true → is_remembered s past (key_of a.packet) ≡ false
  key_is_new h = kept_is_new (is_known a.packet.kind) (has_reading a.packet.kind a.packet.payload) refl h
