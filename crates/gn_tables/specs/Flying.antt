-- What is in flight.
use Rattle.std.specs.Prelude.{◌≡◌, ℕ, List, Some, nat_eq, refl, slice_get}
use Rattle.std.specs.Coded.{Coded, code_by, coded×, coded_ℕ}
use Rattle.std.specs.FinMap.{FinMap}
use Rattle.std.specs.FinMap as map
use Rattle.std.specs.Map.{lookup}
use Rattle.std.specs.Ordering.{nat_cmp}

-- the descriptors in flight, by ticket; and how many there may be
pub record Flying (Flight : Type 0) : Type 0 where
  pub flights : FinMap nat_cmp Flight
  pub most : ℕ

module _ {Flight : Type 0} where
  -- with one more, under a ticket of its own
  abbrev pub with_flight : ℕ → Flight → Flying Flight → Flying Flight
  with_flight ticket flight f = record f { flights = map.insert f.flights ticket flight }

  -- without the one of a ticket
  abbrev pub without_flight : ℕ → Flying Flight → Flying Flight
  without_flight ticket f = record f { flights = map.remove f.flights ticket }

  -- the entry at a place is the only one of a ticket
  abbrev pub IsAt : List (ℕ × Flight) → ℕ → ℕ → Type 0
  IsAt entries place ticket = (f : Flight) × (slice_get entries place ≡ Some (ticket, f)) × (lookup (nat_eq ticket) entries ≡ Some f)

  -- what is in flight as one value, for comparisons
  abbrev pub flying_code : Coded Flight → Coded (Flying Flight)
  flying_code c = code_by (FinMap nat_cmp Flight × ℕ) (coded× (map.code coded_ℕ c) coded_ℕ) (λ f. (f.flights, f.most)) (λ p. record { flights = p.0; most = p.1 }) (λ _. refl)
