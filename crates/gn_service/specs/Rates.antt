-- How many callers of one address are let in within a minute.
use Rattle.std.specs.Prelude.{◌+◌, ◌-◌, ℕ, Option, None, Some, nat_lt, if◌then◌else◌}
use Rattle.std.specs.Time.{instant_nanos}
use Rattle.std.specs.declared.time.Instant.{Instant}
use Rattle.gn_service.specs.declared.rate.Minute.{Minute}

-- an address's minute at a time: the one that began last, until 60 seconds are over, and then a new one
abbrev pub minute_at : Instant → Minute → Minute
minute_at now minute =
    if nat_lt (instant_nanos now - instant_nanos minute.begun) 60000000000 then minute
    else record { begun = now; callers = 0 }

-- a minute with one caller more, who is let in where fewer than so many were
abbrev pub minute_with : ℕ → Minute → Option Minute
minute_with most minute =
    if nat_lt minute.callers most then Some (record minute { callers = minute.callers + 1 }) else None
