use Rattle.gn_hub.proofs.BatchLemmas.{then_more}
use Rattle.gn_hub.proofs.KeptLemmas.{kept_on}
use Rattle.gn_hub.proofs.hub.Hub.batch_answered.Goals as goal

pub returns-then-closes-clause-packet : goal.returns-then-closes-clause-packet
returns-then-closes-clause-packet g c =
    then_more c.outgoing_answered-answer.result.answer c.most.result c.args.batch c.args.c c.args.me.now c.outgoing_answered-answer.new.me c.take_more-closes.new.me c.most.ensures.same c.most.ensures.some c.outgoing_answered-answer.ensures.packet c.take_more-closes.ensures.taken

pub returns-else-closes-clause-packet : goal.returns-else-closes-clause-packet
returns-else-closes-clause-packet g c =
    then_more c.outgoing_answered-answer.result.answer c.most.result c.args.batch c.args.c c.args.me.now c.outgoing_answered-answer.new.me c.take_more-closes.new.me c.most.ensures.same c.most.ensures.some c.outgoing_answered-answer.ensures.packet c.take_more-closes.ensures.taken

pub returns-then-closes-clause-kept : goal.returns-then-closes-clause-kept
returns-then-closes-clause-kept g c = kept_on _ _ _ _ _ _ c.outgoing_answered-answer.ensures.kept c.take_more-closes.ensures.kept

pub returns-else-closes-clause-kept : goal.returns-else-closes-clause-kept
returns-else-closes-clause-kept g c = kept_on _ _ _ _ _ _ c.outgoing_answered-answer.ensures.kept c.take_more-closes.ensures.kept
