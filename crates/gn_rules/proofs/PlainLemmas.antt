-- A plain reply is the one of its counter and its number, and a reason the one of its counter.
use Rattle.std.proofs.Common.{◌≡◌, true, Some, refl}
use Rattle.gn_rules.specs.declared.reply.DropReason.{DropReason}
use Rattle.gn_rules.specs.declared.reply.DropReason.TheVariants.{UnknownKind}
use Rattle.gn_rules.specs.declared.reply.Reply.{Reply}
use Rattle.gn_rules.specs.declared.reply.Reply.TheVariants.{Routed, Dropped, Taken, Sent}
use Rattle.gn_rules.specs.Plain.{is_plain, number_of, plain_of, reason_of}
use Rattle.gn_rules.specs.Statistics.{counter_of, drop_counter}

pub plain_again : {A : Type 0} (reply : Reply A) → is_plain reply ≡ true → plain_of (counter_of reply) (number_of reply) ≡ Some reply
plain_again (Routed sends local) plain = absurd (cc)
plain_again (Dropped why) plain = absurd (cc)
plain_again (Taken packet) plain = absurd (cc)
plain_again (Sent sends) plain = absurd (cc)
plain_again reply plain = refl

pub reason_again : (why : DropReason) → reason_of (drop_counter why) ≡ Some why
reason_again UnknownKind = refl
reason_again why = refl
