use Rattle.std.specs.Vec.Iter.{into_iter_items, into_iter_len}
use Rattle.gn_table_router.proofs.SendableLemmas.{IsSending}
use Rattle.gn_table_router.proofs.follow.queue_all.Given as goal

abbrev pub invariant-loop-sending : goal.invariant-loop-sending
invariant-loop-sending g l =
    IsSending (into_iter_items l.sending-iterator) (into_iter_len l.sending-iterator) l.neighbours l.initial.neighbours (into_iter_items l.initial.sending-iterator)
