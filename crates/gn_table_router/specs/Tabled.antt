-- What a router's tables hold, in terms of its steps.
use Rattle.std.specs.Prelude.{◌≡◌, ◌+◌, ◌<◌, ◌≤◌, ℕ, false, List, [], ◌∷◌, length, take, None, ◌==◌}
use Rattle.std.specs.List.{All}
use Rattle.std.specs.Option.{option_map}
use Rattle.std.specs.FinMap as map
use Rattle.gn_rules.specs.declared.config.Config.{Config}
use Rattle.gn_rules.specs.declared.receipt.Step.{Step}
use Rattle.gn_rules.specs.Flight.{Admission, admission, flying, in_flight, is_routed, tickets}
use Rattle.gn_rules.specs.Answer.{IsLegal}
use Rattle.gn_rules.specs.History.{connections, live_connections}
use Rattle.gn_rules.specs.Output.{out, rows}
use Rattle.gn_rules.specs.Servents.{servents}
use Rattle.gn_rules.specs.SeenEntries.{seen_entries}
use Rattle.gn_rules.specs.Statistics.{stats_of}
use Rattle.gn_tables.specs.declared.flights.Flight.{Flight}
use Rattle.gn_tables.specs.Flying.{Flying}
use Rattle.gn_tables.specs.Outputs.{Outputs}
use Rattle.gn_kept.specs.Remembered.{Remembered}
use Rattle.gn_tables.specs.Servents.{Servents}
use Rattle.gn_table_router.specs.declared.tables.Tables.{Tables}

-- what the table keeps of an admission
abbrev pub flight_of : {A : Type 0} → Admission → Flight A
flight_of a = record { from = a.origin; descriptor = a.packet }

-- the newest seen entries that the steps leave
abbrev pub remembered : {A : Type 0} → Config → List (Step A) → Remembered
remembered s past = record { seen_entries = take s.numbers.seen (seen_entries past); most = s.numbers.seen }

-- the newest servents that the steps leave
abbrev pub known : {A : Type 0} → Config → List (Step A) → Servents
known s past = record { routes = take s.numbers.servents (servents past); most = s.numbers.servents }

-- the neighbours that the steps leave
abbrev pub outputs : {A : Type 0} → Config → List (Step A) → Outputs
outputs s past = record { rows = rows past; most = s.numbers.neighbours; room = s.numbers.out }

-- no number stands twice
abbrev pub AreApart : List ℕ → Type 0
AreApart [] = Unit {0}
AreApart (n ∷ ns) = All (λ m. (m == n) ≡ false) ns × AreApart ns

-- the connections are numbered from 1 on, and nothing waits for a number that none has yet
pub record AreNumbered {A : Type 0} (s : Config) (past : List (Step A)) (connected : ℕ) : Type 0 where
  pub counted : connected ≡ length (connections past)
  pub few : connected ≤ length past
  pub below : All (λ d. d < connected + 1) (connections past)
  pub apart : AreApart (connections past)
  pub few_live : length (live_connections past) ≤ s.numbers.neighbours
  pub fresh : (c : ℕ) → connected < c → out past c ≡ []

-- the tickets are numbered from 0 on, and the flights are those that are in flight
pub record AreFlying {A : Type 0} (s : Config) (past : List (Step A)) (admitted : ℕ) (flights : Flying (Flight A)) : Type 0 where
  pub counted : admitted ≡ length (tickets past)
  pub few : admitted ≤ length past
  pub below : All (λ u. u < admitted) (tickets past)
  pub apart : AreApart (tickets past)
  pub few_flying : length (flying past) ≤ s.numbers.stage
  pub unrouted : (u : ℕ) → admitted ≤ u → is_routed past u ≡ false
  pub unadmitted : (u : ℕ) → admitted ≤ u → admission past u ≡ None
  pub each : (u : ℕ) → map.get flights.flights u ≡ option_map flight_of (in_flight past u)
  pub many : map.len flights.flights ≡ length (flying past)
  pub most : flights.most ≡ s.numbers.stage

-- the tables are what the steps make them
pub record IsTabled {A : Type 0} (s : Config) (past : List (Step A)) (t : Tables A) : Type 0 where
  pub legal : IsLegal s past
  pub short : length past ≤ s.numbers.steps
  pub numbered : AreNumbered s past t.connected
  pub flights_are : AreFlying s past t.admitted t.flights
  pub seen_is : t.seen ≡ remembered s past
  pub servents_are : t.servents ≡ known s past
  pub neighbours_are : t.neighbours ≡ outputs s past
  pub stats_are : t.stats ≡ stats_of past
