-- The packets that a reply sends.
use Rattle.std.specs.Prelude.{◌+◌, ℕ, Bool, true, false, ◌==◌, ◌&&◌, not, nat_lt, min, map, filter, if◌then◌else◌, List, [], ◌∷◌, ◌++◌, length}
use Rattle.gn_wire.specs.declared.kind.Kind.{Kind}
use Rattle.gn_wire.specs.declared.kind.Kind.TheVariants.{Ping, Pong}
use Rattle.gn_wire.specs.Packet.{is_expired, forward_of, Packet}
use Rattle.gn_payload.specs.Encoding.{pong_bytes}
use Rattle.gn_rules.specs.declared.config.Config.{Config}
use Rattle.gn_rules.specs.declared.config.Own.{Own}
use Rattle.gn_rules.specs.declared.receipt.Step.{Step}
use Rattle.gn_rules.specs.declared.sends.Sending.{Sending}
use Rattle.gn_rules.specs.Flight.{Admission}
use Rattle.gn_rules.specs.History.{live, live_connections}
use Rattle.gn_rules.specs.Output.{out}

-- a send of a packet to c, queued exactly where its output has room
abbrev pub send : {A : Type 0} → Config → List (Step A) → Packet → ℕ → Sending A
send s past p c = record { to = c; packet = p; queued = nat_lt (length (out past c)) s.numbers.out }

-- a send of the packet to each live connection but c, ascending
abbrev pub fanout : {A : Type 0} → Config → List (Step A) → ℕ → Packet → List (Sending A)
fanout s past c p = map (send s past p) (filter (λ d. not (d == c)) (live_connections past))

-- the own Pong to a Ping: the Ping's ID, a TTL one more than the Ping's Hops and at most 255, Hops 0, and the local servent's
-- port, address, files and kilobytes
abbrev pub own_pong : Own → Packet → Packet
own_pong own ping =
    record { id = ping.id; kind = Pong; ttl = min 255 (ping.hops + 1); hops = 0; payload = pong_bytes own.port own.ip own.files own.kbytes }

-- whether a kind is Ping
abbrev pub is_ping : Kind → Bool
is_ping Ping = true
is_ping kind = false

-- what a Flood sends: for a Ping first the own Pong, where the connection that admitted it is live; then the forward to each other
-- live connection, unless it is expired
abbrev pub flood_sends : {A : Type 0} → Config → List (Step A) → Admission → List (Sending A)
flood_sends s past a =
    (if is_ping a.packet.kind && live past a.origin then send s past (own_pong s.own a.packet) a.origin ∷ [] else [])
    ++ (if is_expired s.numbers.life a.packet then [] else fanout s past a.origin (forward_of s.numbers.life a.packet))
