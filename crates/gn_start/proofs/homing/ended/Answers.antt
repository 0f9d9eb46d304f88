use Rattle.gn_start.proofs.HomeLemmas.{looked_end}
use Rattle.gn_start.proofs.homing.ended.Goals as goal

pub returns-in-Ok-Ok-clause-ended : goal.returns-in-Ok-Ok-clause-ended
returns-in-Ok-Ok-clause-ended g c =
    looked_end c.args.ends c.args.retired.now c.in-Ok-Ok.reader_end c.in-Ok-Ok.writer_end c.account_of-account.result c.looked_at.result.0 c.looked_at.result.1
    c.account_of-account.ensures c.in-Ok-Ok.is-0 c.in-Ok-Ok.is-1 c.looked_at.ensures.whole c.looked_at.ensures.cut
