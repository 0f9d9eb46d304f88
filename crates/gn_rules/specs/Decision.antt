-- What becomes of a descriptor that is routed, by its kind.
use Rattle.std.specs.Prelude.{ℕ, ◌==◌, not, if◌then◌else◌, List, Option, Some, None}
use Rattle.std.specs.Option.{option_map_or}
use Rattle.gn_wire.specs.declared.kind.Kind.{Kind}
use Rattle.gn_wire.specs.Packet.{is_expired}
use Rattle.gn_wire.specs.Keys.{is_same_id, key_of}
use Rattle.gn_payload.specs.declared.checked.Verdict.{Verdict}
use Rattle.gn_payload.specs.declared.checked.Verdict.TheVariants.{Sound, UnknownKind, Malformed}
use Rattle.gn_payload.specs.Fields.{push_servent}
use Rattle.gn_payload.specs.Reading.{verdict_of}
use Rattle.gn_rules.specs.declared.config.Config.{Config}
use Rattle.gn_rules.specs.declared.receipt.Step.{Step}
use Rattle.gn_rules.specs.declared.reply.DropReason.{DropReason}
use Rattle.gn_rules.specs.declared.reply.DropReason.TheVariants as reason
use Rattle.gn_rules.specs.declared.routing.Routing.{Routing}
use Rattle.gn_rules.specs.declared.routing.Routing.TheVariants.{Floods, Back, Pushed, Unnamed}
use Rattle.gn_rules.specs.Flight.{Admission}
use Rattle.gn_rules.specs.History.{live}
use Rattle.gn_rules.specs.Routings.{routing_of}
use Rattle.gn_rules.specs.Servents.{servent_route}
use Rattle.gn_rules.specs.SeenEntries.{source, is_remembered}

-- what becomes of a descriptor that is routed, before any packet is made
pub data Decision : Type 0 where
  -- it is dropped
  Drop : DropReason → Decision
  -- it is for the local servent alone
  Local : Decision
  -- it is for the local servent and, unless it is expired, for each other live connection; a Ping is also answered with the
  -- router's own Pong
  Flood : Decision
  -- it is passed on to one connection
  Forward : ℕ → Decision

-- the checks of a route to the connection r, in order: RouteGone where r isn't live, BackToSender where r admitted the
-- descriptor, Expired where that is expired; else a Forward to r
abbrev pub checks : {A : Type 0} → Config → List (Step A) → Admission → ℕ → Decision
checks s past a r =
    if not (live past r) then Drop reason.RouteGone
    else if r == a.origin then Drop reason.BackToSender
    else if is_expired s.numbers.life a.packet then Drop reason.Expired
    else Forward r

-- a response goes back to the source of its request; 0 is the local servent
abbrev pub decide_reply : {A : Type 0} → Config → List (Step A) → Admission → Option ℕ → Decision
decide_reply s past a None = Drop reason.NoRoute
decide_reply s past a (Some r) = if r == 0 then Local else checks s past a r

-- what becomes of a sound descriptor, by its routing
abbrev pub decide_routed : {A : Type 0} → Config → List (Step A) → Admission → Routing → Decision
-- a request is a duplicate where its key is remembered, else it is a Flood
decide_routed s past a Floods = if is_remembered s past (key_of a.packet) then Drop reason.Duplicate else Flood
-- a response goes by the request of its ID
decide_routed s past a (Back kind) = decide_reply s past a (source s past (record { kind = kind; id = a.packet.id }))
-- a Push is a duplicate where its key is remembered; else it is for the local servent if it names this one, or goes where the
-- named servent's last Query Hit came from
decide_routed s past a Pushed =
    if is_remembered s past (key_of a.packet) then Drop reason.Duplicate
    else if is_same_id (push_servent a.packet.payload) s.own.servent then Local
    else option_map_or (checks s past a) (servent_route s past (push_servent a.packet.payload)) (Drop reason.NoRoute)
decide_routed s past a Unnamed = Drop reason.UnknownKind

-- what becomes of a sound descriptor, by its kind
abbrev pub decide_sound : {A : Type 0} → Config → List (Step A) → Admission → Kind → Decision
decide_sound s past a kind = decide_routed s past a (routing_of kind)

-- what becomes of a descriptor whose payload was checked: it is dropped unless it is sound
abbrev pub decide_checked : {A : Type 0} → Config → List (Step A) → Admission → Verdict → Decision
decide_checked s past a UnknownKind = Drop reason.UnknownKind
decide_checked s past a Malformed = Drop reason.Malformed
decide_checked s past a Sound = decide_sound s past a a.packet.kind

-- what becomes of a descriptor: its payload is checked, and the check decides as above
abbrev pub decide : {A : Type 0} → Config → List (Step A) → Admission → Decision
decide s past a = decide_checked s past a (verdict_of a.packet)
