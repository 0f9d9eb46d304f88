-- How many steps of a history had each reply.
use Rattle.std.specs.Prelude.{◌+◌, ℕ, Bool, ◌==◌, List, [], ◌∷◌, count_by, map, slice_index, slice_set}
use Rattle.gn_rules.specs.declared.receipt.Step.{Step}
use Rattle.gn_rules.specs.declared.reply.DropReason.{DropReason}
use Rattle.gn_rules.specs.declared.reply.DropReason.TheVariants as reason
use Rattle.gn_rules.specs.declared.reply.Reply.{Reply}
use Rattle.gn_rules.specs.declared.reply.Reply.TheVariants as reply
use Rattle.gn_rules.specs.declared.statistics.Counter.{Counter}
use Rattle.gn_rules.specs.declared.statistics.Counter.TheVariants as counter
use Rattle.gn_rules.specs.declared.statistics.Stats.{Stats}

-- the counter of a reply; of Dropped that of its reason
abbrev pub counter_of : {A : Type 0} → Reply A → Counter
counter_of (reply.Connected c) = counter.Connected
counter_of reply.TooMany = counter.TooMany
counter_of (reply.Closed count) = counter.Closed
counter_of (reply.Admitted t) = counter.Admitted
counter_of reply.Busy = counter.Busy
counter_of reply.Crowded = counter.Crowded
counter_of (reply.Routed sends local) = counter.Routed
counter_of (reply.Dropped reason.UnknownKind) = counter.UnknownKind
counter_of (reply.Dropped reason.Malformed) = counter.Malformed
counter_of (reply.Dropped reason.Duplicate) = counter.Duplicate
counter_of (reply.Dropped reason.NoRoute) = counter.NoRoute
counter_of (reply.Dropped reason.RouteGone) = counter.RouteGone
counter_of (reply.Dropped reason.BackToSender) = counter.BackToSender
counter_of (reply.Dropped reason.Expired) = counter.Expired
counter_of (reply.Taken packet) = counter.Taken
counter_of (reply.Sent sends) = counter.Sent

-- the counter of a reason to drop, whatever the allocator
abbrev pub drop_counter : DropReason → Counter
drop_counter why = counter_of {A = ℕ} (reply.Dropped why)

-- all counters, in order
abbrev pub counters : List Counter
counters =
    counter.Connected ∷ counter.TooMany ∷ counter.Closed ∷ counter.Admitted ∷ counter.Busy ∷ counter.Crowded ∷ counter.Routed
    ∷ counter.UnknownKind ∷ counter.Malformed ∷ counter.Duplicate ∷ counter.NoRoute ∷ counter.RouteGone ∷ counter.BackToSender
    ∷ counter.Expired ∷ counter.Taken ∷ counter.Sent ∷ []

-- the place of each in that order
abbrev pub counter_place : Counter → ℕ
counter_place counter.Connected = 0
counter_place counter.TooMany = 1
counter_place counter.Closed = 2
counter_place counter.Admitted = 3
counter_place counter.Busy = 4
counter_place counter.Crowded = 5
counter_place counter.Routed = 6
counter_place counter.UnknownKind = 7
counter_place counter.Malformed = 8
counter_place counter.Duplicate = 9
counter_place counter.NoRoute = 10
counter_place counter.RouteGone = 11
counter_place counter.BackToSender = 12
counter_place counter.Expired = 13
counter_place counter.Taken = 14
counter_place counter.Sent = 15

-- two are the same where their places are
abbrev pub is_same_counter : Counter → Counter → Bool
is_same_counter j k = counter_place j == counter_place k

-- the number of a counter in statistics
abbrev pub count_in : Counter → Stats → ℕ
count_in k n = slice_index n.counts (counter_place k)

-- the statistics with one counter raised by one
abbrev pub raised : Counter → Stats → Stats
raised k n = record { counts = slice_set n.counts (counter_place k) (count_in k n + 1) }

-- the statistics of a history: of each counter, how many replies have it
abbrev pub stats_of : {A : Type 0} → List (Step A) → Stats
stats_of past = record { counts = map (λ k. count_by (λ step. is_same_counter (counter_of step.reply) k) past) counters }

-- the statistics of no steps, whatever the allocator
abbrev pub no_stats : Stats
no_stats = stats_of {A = ℕ} []
