-- What is kept of the steps that were shown, so that later rows can look back at them.
use Rattle.std.specs.Prelude.{◌≡◌, ℕ, List, ◌∷◌, [], Option, option_map}
use Rattle.std.specs.BTreeMap.{get}
use Rattle.std.specs.Ordering.{nat_cmp}
use Rattle.std.specs.Option.{option_map_or}
use Rattle.std.specs.declared.alloc.Global.{Global}
use Rattle.hex.specs.Hex.{encode_lower}
use Rattle.gn_wire.specs.declared.kind.Guid.{Guid}
use Rattle.gn_rules.specs.Flight.{Admission}
use Rattle.gn_rules.specs.declared.receipt.Step.{Step}
use Rattle.gn_show.specs.Rows.{Row, number_field}
use Rattle.gn_show.specs.Subjects.{waiting}
use Rattle.gn_show.specs.Times.{Place}
use Rattle.gn_show.specs.declared.clock.Moment.{Moment}
use Rattle.gn_show.specs.declared.flight.Flight.{Flight}
use Rattle.gn_show.specs.declared.flight.Subject.{Subject}
use Rattle.gn_show.specs.declared.form.Form.{Form}
use Rattle.gn_show.specs.declared.form.Form.TheVariants.{Plain, Json, Rows}
use Rattle.gn_show.specs.declared.rows.PacketFields.{PacketFields}
use Rattle.gn_show.specs.declared.rows.Row.{Row as Shown}

-- what waits under a ticket
abbrev pub waits : Flight → ℕ → Option Admission
waits flight t = option_map (λ a. record { origin = a.origin; packet = a.packet }) (get nat_cmp flight.waiting t)

-- what waits is what these steps left in flight
abbrev pub Follows : Flight → List (Step Global) → Type 0
Follows flight past = (t : ℕ) → waits flight t ≡ waiting past t

-- the same, where what is shown of a step looks back
abbrev pub Fits : Form → Flight → List (Step Global) → Type 0
Fits Plain flight past = Unit {0}
Fits Json flight past = Follows flight past
Fits Rows flight past = Follows flight past

-- the packet that an event speaks of
abbrev pub seen : Option Subject → Option Admission
seen subject = option_map (λ s. record { origin = s.origin; packet = s.packet.now }) subject

-- where a step stands
abbrev pub placed : Moment → Place
placed moment = record { index = moment.index; time = moment.time.now }

-- what a row says
abbrev pub row_seen : Shown → Row
row_seen row = record { from = row.from; to = row.to; packet = option_map (λ d. d.now) row.packet; queued = row.queued }

-- an ID in hex digits, where there is one
abbrev pub id_field : Option Guid → List ℕ
id_field id = option_map_or (λ id. encode_lower id.0) id []

-- the fields of a packet
abbrev pub fields_seen : PacketFields → List (List ℕ)
fields_seen f = f.kind.now ∷ id_field f.id ∷ number_field f.ttl ∷ number_field f.hops ∷ number_field f.length ∷ []
