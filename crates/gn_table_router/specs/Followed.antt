-- What the tables become by an event with its reply, and when they can.
use Rattle.std.specs.Prelude.{◌≡◌, ◌+◌, ◌<◌, ◌^◌, ℕ, List, length, Option, Some, None}
use Rattle.std.specs.List.{All}
use Rattle.std.specs.FinMap as map
use Rattle.gn_wire.specs.Keys.{key_of}
use Rattle.gn_wire.specs.Packet.{Packet}
use Rattle.gn_rules.specs.declared.event.Event.{Event}
use Rattle.gn_rules.specs.declared.event.Event.TheVariants.{Connect, Close, Admit, Route, Take, Originate}
use Rattle.gn_rules.specs.declared.reply.Reply.{Reply}
use Rattle.gn_rules.specs.declared.reply.Reply.TheVariants.{Connected, Admitted}
use Rattle.gn_rules.specs.declared.sends.Sending.{Sending}
use Rattle.gn_rules.specs.History.{sends_of}
use Rattle.gn_rules.specs.Statistics.{counter_of, raised, count_in}
use Rattle.gn_tables.specs.declared.flights.Flight.{Flight}
use Rattle.gn_tables.specs.Flying.{with_flight, without_flight}
use Rattle.gn_tables.specs.Outputs.{joined, left, popped}
use Rattle.gn_tables.specs.Routed.{CanRemember, carried, with_heard}
use Rattle.gn_kept.specs.Remembered.{IsNewKey, with_entry, with_kept}
use Rattle.gn_table_router.specs.declared.tables.Tables.{Tables}
use Rattle.gn_table_router.specs.Sent.{CanSend, sent}

-- after a Connect
abbrev pub connected : {A : Type 0} → Reply A → Tables A → Tables A
connected (Connected c) t = record t { neighbours = joined c t.neighbours; connected = c }
connected reply t = t

-- after an Admit
abbrev pub admitted : {A : Type 0} → ℕ → Packet → Reply A → Tables A → Tables A
admitted c d (Admitted u) t = record t { flights = with_flight u (record { from = c; descriptor = d }) t.flights; admitted = u + 1 }
admitted c d reply t = t

-- after a Route of this flight
abbrev pub routed : {A : Type 0} → ℕ → Reply A → Option (Flight A) → Tables A → Tables A
routed u reply None t = t
routed u reply (Some f) t = record t {
  seen = with_kept reply (carried f) t.seen;
  servents = with_heard reply (carried f) t.servents;
  flights = without_flight u t.flights;
}

-- after an Originate
abbrev pub originated : {A : Type 0} → Packet → Tables A → Tables A
originated d t = record t { seen = with_entry (key_of d) 0 t.seen }

-- after an event, before it is counted and its packets are queued
abbrev pub moved : {A : Type 0} → Event A → Reply A → Tables A → Tables A
moved Connect reply t = connected reply t
moved (Close c) reply t = record t { neighbours = left c t.neighbours }
moved (Admit c d) reply t = admitted c d reply t
moved (Route u) reply t = routed u reply (map.get t.flights.flights u) t
moved (Take c) reply t = record t { neighbours = popped c t.neighbours }
moved (Originate d) reply t = originated d t

-- with one more step of this reply counted
abbrev pub counted : {A : Type 0} → Reply A → Tables A → Tables A
counted reply t = record t { stats = raised (counter_of reply) t.stats }

-- after an event with its reply, before its packets are queued
abbrev pub followed : {A : Type 0} → Event A → Reply A → Tables A → Tables A
followed event reply t = counted reply (moved event reply t)

-- with these packets queued
abbrev pub queued : {A : Type 0} → List (Sending A) → Tables A → Tables A
queued sends t = record t { neighbours = sent sends t.neighbours }

-- a new connection is greater than all there, and there is room for it
abbrev pub CanConnect : {A : Type 0} → Reply A → Tables A → Type 0
CanConnect (Connected c) t = All (λ r. r.0 < c) t.neighbours.rows × (length t.neighbours.rows < t.neighbours.most)
CanConnect reply t = Unit {0}

-- a new ticket isn't in flight, and there is room for it
abbrev pub CanAdmit : {A : Type 0} → Reply A → Tables A → Type 0
CanAdmit (Admitted u) t =
    (u + 1 < 2 ^ 32) × (map.len t.flights.flights < t.flights.most) × (map.get t.flights.flights u ≡ None)
CanAdmit reply t = Unit {0}

-- a flight can be remembered
abbrev pub CanRoute : {A : Type 0} → ℕ → Reply A → Tables A → Type 0
CanRoute {A} u reply t = (f : Flight A) → map.get t.flights.flights u ≡ Some f → CanRemember reply (carried f) t.seen

-- the tables can do what an event with this reply does to them
abbrev pub CanMove : {A : Type 0} → Event A → Reply A → Tables A → Type 0
CanMove Connect reply t = CanConnect reply t
CanMove (Close c) reply t = Unit {0}
CanMove (Admit c d) reply t = CanAdmit reply t
CanMove (Route u) reply t = CanRoute u reply t
CanMove (Take c) reply t = Unit {0}
CanMove (Originate d) reply t = IsNewKey (key_of d) t.seen

-- they can, one more can be counted, and then there is room for the sends
pub record CanFollow {A : Type 0} (event : Event A) (reply : Reply A) (t : Tables A) : Type 0 where
  pub moves : CanMove event reply t
  pub counts : count_in (counter_of reply) t.stats + 1 < 2 ^ 32
  pub sends : CanSend (sends_of reply) (followed event reply t).neighbours
