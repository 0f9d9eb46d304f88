use Rattle.gn_report.proofs.AccountLemmas.{ended_is_seen}
use Rattle.gn_report.proofs.seen.ended_is_seen.Goals as goal

pub returns : goal.returns
returns g c = ended_is_seen _ _ _ _
