-- The plain replies: a counter, and for some a number, say all of such a reply.
use Rattle.std.specs.Prelude.{ℕ, Bool, true, false, Option, Some, None}
use Rattle.gn_rules.specs.declared.reply.DropReason.{DropReason}
use Rattle.gn_rules.specs.declared.reply.DropReason.TheVariants as reason
use Rattle.gn_rules.specs.declared.reply.Reply.{Reply}
use Rattle.gn_rules.specs.declared.reply.Reply.TheVariants.{Connected, TooMany, Closed, Admitted, Busy, Crowded, Routed, Dropped, Taken, Sent}
use Rattle.gn_rules.specs.declared.statistics.Counter.{Counter}
use Rattle.gn_rules.specs.declared.statistics.Counter.TheVariants as counter

-- the number of a reply: a connection, how many packets were discarded, or a ticket
abbrev pub number_of : {A : Type 0} → Reply A → Option ℕ
number_of (Connected c) = Some c
number_of (Closed count) = Some count
number_of (Admitted t) = Some t
number_of reply = None

-- whether its counter and its number say all of a reply: it has no packets and no reason
abbrev pub is_plain : {A : Type 0} → Reply A → Bool
is_plain (Routed sends local) = false
is_plain (Dropped why) = false
is_plain (Taken packet) = false
is_plain (Sent sends) = false
is_plain reply = true

-- the plain reply of a counter and a number
abbrev pub plain_of : {A : Type 0} → Counter → Option ℕ → Option (Reply A)
plain_of counter.Connected (Some c) = Some (Connected c)
plain_of counter.TooMany None = Some TooMany
plain_of counter.Closed (Some count) = Some (Closed count)
plain_of counter.Admitted (Some t) = Some (Admitted t)
plain_of counter.Busy None = Some Busy
plain_of counter.Crowded None = Some Crowded
plain_of k number = None

-- the reason to drop that a counter counts
abbrev pub reason_of : Counter → Option DropReason
reason_of counter.UnknownKind = Some reason.UnknownKind
reason_of counter.Malformed = Some reason.Malformed
reason_of counter.Duplicate = Some reason.Duplicate
reason_of counter.NoRoute = Some reason.NoRoute
reason_of counter.RouteGone = Some reason.RouteGone
reason_of counter.BackToSender = Some reason.BackToSender
reason_of counter.Expired = Some reason.Expired
reason_of k = None
