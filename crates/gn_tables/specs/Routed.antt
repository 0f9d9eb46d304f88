-- What a flight that is routed leaves in the tables.
use Rattle.std.specs.Prelude.{◌≡◌, ◌≤◌, ◌&&◌, if◌then◌else◌, true, length}
use Rattle.gn_wire.specs.Keys.{key_of}
use Rattle.gn_payload.specs.Fields.{hit_servent}
use Rattle.gn_rules.specs.declared.reply.Reply.{Reply}
use Rattle.gn_rules.specs.Flight.{Admission}
use Rattle.gn_rules.specs.History.{is_routed_reply}
use Rattle.gn_rules.specs.Servents.{is_query_hit}
use Rattle.gn_rules.specs.SeenEntries.{keeps}
use Rattle.gn_kept.specs.Remembered.{IsNewKey, Remembered}
use Rattle.gn_tables.specs.declared.flights.Flight.{Flight}
use Rattle.gn_tables.specs.Servents.{Servents, learned}

-- a flight is an admission
abbrev pub carried : {A : Type 0} → Flight A → Admission
carried f = record { origin = f.from; packet = f.descriptor }

-- the known servents after a route with this reply: with the servent that a Query Hit names where it was routed
abbrev pub with_heard : {A : Type 0} → Reply A → Admission → Servents → Servents
with_heard reply a servents =
    if is_query_hit a.packet.kind && is_routed_reply reply then learned (hit_servent a.packet.payload) a.origin servents
    else servents

-- a flight that is remembered has a new key, or a servent that its payload names
pub record CanRemember {A : Type 0} (reply : Reply A) (a : Admission) (seen : Remembered) : Type 0 where
  pub is_new : keeps a.packet.kind reply ≡ true → IsNewKey (key_of a.packet) seen
  pub verdict : (is_query_hit a.packet.kind && is_routed_reply reply) ≡ true → 16 ≤ length a.packet.payload
