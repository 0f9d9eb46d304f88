-- What the fields of a step line say of its event.
use Rattle.std.specs.Prelude.{ℕ, List, [], ◌∷◌, map, Option, Some, None}
use Rattle.std.proofs.Common.{Bor}
use Rattle.gn_wire.specs.Packet.{Packet}
use Rattle.gn_rules.specs.declared.event.Event.{Event}
use Rattle.gn_rules.specs.declared.event.Event.TheVariants.{Connect, Close, Admit, Route, Take, Originate}
use Rattle.gn_numbers.specs.declared.events.EventWord.{EventWord}
use Rattle.gn_numbers.specs.declared.events.EventWord.TheVariants as word
use Rattle.gn_numbers.specs.Names.{event_named}
use Rattle.gn_numbers.specs.Numbers.{number_of, ◌>>=◌}
use Rattle.gn_capture.specs.Packets.{packet_parsed}

-- a value that the first fields say, with the fields after them, and what these refer to
abbrev pub first_seen : {X : Type 0} → X × Bor (List (Bor (List ℕ))) → X × List (List ℕ)
first_seen first = (first.0, map (λ x. x.now) first.1.now)

-- the number that the first field says, and the fields after it
abbrev pub number_first : List (List ℕ) → Option (ℕ × List (List ℕ))
number_first [] = None
number_first (field ∷ more) = do
  n ← number_of field
  Some (n, more)

-- the descriptor that the first field says, and the fields after it
abbrev pub packet_first : List (List ℕ) → Option (Packet × List (List ℕ))
packet_first [] = None
packet_first (field ∷ more) = do
  packet ← packet_parsed field
  Some (packet, more)

-- a number and a descriptor make an Admit
abbrev pub admit_first : {A : Type 0} → List (List ℕ) → Option (Event A × List (List ℕ))
admit_first fields = do
  c ← number_first fields
  packet ← packet_first c.1
  Some (Admit c.0 packet.0, packet.1)

-- the event of this word, of which the first fields behind it say the rest, and the fields after them
abbrev pub event_by : {A : Type 0} → List (List ℕ) → EventWord → Option (Event A × List (List ℕ))
event_by fields word.Connect = Some (Connect, fields)
event_by fields word.Close = number_first fields >>= λ c. Some (Close c.0, c.1)
event_by fields word.Admit = admit_first fields
event_by fields word.Route = number_first fields >>= λ t. Some (Route t.0, t.1)
event_by fields word.Take = number_first fields >>= λ c. Some (Take c.0, c.1)
event_by fields word.Originate = packet_first fields >>= λ d. Some (Originate d.0, d.1)

-- the event that the first fields say, and the fields after them
abbrev pub event_first : {A : Type 0} → List (List ℕ) → Option (Event A × List (List ℕ))
event_first [] = None
event_first (word ∷ more) = event_named word >>= event_by more
