use Rattle.std.proofs.Common.{None}
use Rattle.gn_kept.proofs.SeenLemmas.{written}
use Rattle.gn_kept.proofs.seen.forget.Goals as goal

pub returns-in-Some-clause-entries : goal.returns-in-Some-clause-entries
returns-in-Some-clause-entries g c = rw c.in-Some.is (written _ _ c.in-Some.key None c.swap_remove.ensures.updates.0)
