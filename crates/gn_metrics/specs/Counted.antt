-- What a look says of its counts.
use Rattle.std.specs.Prelude.{ℕ, ◌-◌, ◌+◌, get_or, slice_range}
use Rattle.gn_rules.specs.Statistics.{counter_place}
use Rattle.gn_rules.specs.declared.statistics.Counter.{Counter}
use Rattle.gn_rules.specs.declared.statistics.Counter.TheVariants.{Admitted, Closed, Connected, Expired, Routed}
use Rattle.gn_metrics.specs.declared.look.Look.{Look}
use Rattle.gn_metrics.specs.Sums.{sum_up}

-- the count of a counter
abbrev pub count_at : Look → Counter → ℕ
count_at look counter = get_or look.counts (counter_place counter) 0

-- how many steps there are
abbrev pub steps_of : Look → ℕ
steps_of look = sum_up look.counts

-- how many connections are live
abbrev pub connections_of : Look → ℕ
connections_of look = count_at look Connected - count_at look Closed

-- how many descriptors are in flight: those that were admitted, less those that were routed or dropped
abbrev pub in_flight_of : Look → ℕ
in_flight_of look =
    count_at look Admitted - sum_up (slice_range look.counts (counter_place Routed) (counter_place Expired + 1))
