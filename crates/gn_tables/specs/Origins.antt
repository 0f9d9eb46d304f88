-- How many of the descriptors in flight each connection sent.
use Rattle.std.specs.Prelude.{◌≡◌, ℕ, ◌==◌, nat_eq, List, filter, length}
use Rattle.std.specs.FinMap as map
use Rattle.std.specs.Map.{lookup}
use Rattle.gn_tables.specs.Counts.{unless_zero}
use Rattle.gn_tables.specs.declared.flights.Flight.{Flight}
use Rattle.gn_tables.specs.Flying.{Flying}

-- how many of these flights came from a connection
abbrev pub from_count : {A : Type 0} → ℕ → List (Flight A) → ℕ
from_count c flights = length (filter (λ flight. flight.from == c) flights)

-- how many descriptors in flight came from a connection
abbrev pub flights_from : {A : Type 0} → ℕ → Flying (Flight A) → ℕ
flights_from c f = from_count c (map.values f.flights)

-- the counts are those of the descriptors in flight: of each connection that has any, and of no other
abbrev pub AreCounts : {A : Type 0} → List (ℕ × ℕ) → Flying (Flight A) → Type 0
AreCounts counts f = (c : ℕ) → lookup (nat_eq c) counts ≡ unless_zero (flights_from c f)
