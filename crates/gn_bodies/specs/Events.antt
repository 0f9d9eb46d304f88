-- What the receipts of an actor say of its events.
use Rattle.std.specs.Prelude.{ℕ, not, List, filter, is_some, map, Option}
use Rattle.gn_wire.specs.Packet.{Packet}
use Rattle.gn_rules.specs.declared.event.Event.{Event}
use Rattle.gn_rules.specs.declared.receipt.Receipt.{Receipt}
use Rattle.gn_rules.specs.History.{ticket_of}
use Rattle.gn_laws.specs.Owners.{known_conn}
use Rattle.gn_laws.specs.Owners as laws
use Rattle.gn_hub.specs.ActorState.{ActorState}

-- an actor's events, in order
abbrev pub events_of : {A : Type 0} → ActorState A → List (Event A)
events_of me = map (λ r. r.event) me.receipts

-- the events of these receipts except the Routes, in order
abbrev pub link_events_in : {A : Type 0} → List (Receipt A) → List (Event A)
link_events_in receipts = filter (λ event. not (is_some (ticket_of event))) (map (λ r. r.event) receipts)

-- an actor's events except its routes, in order
abbrev pub link_events : {A : Type 0} → ActorState A → List (Event A)
link_events me = link_events_in me.receipts

-- the first connection that an actor's receipts made
abbrev pub connection_of : {A : Type 0} → ActorState A → Option ℕ
connection_of me = known_conn me.receipts

-- the packets that an actor took, in order
abbrev pub packets_of : {A : Type 0} → ActorState A → List Packet
packets_of me = laws.packets_of me.receipts
