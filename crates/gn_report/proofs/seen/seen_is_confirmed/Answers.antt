use Rattle.gn_report.proofs.SeenLemmas.{seen_is_confirmed}
use Rattle.gn_report.proofs.seen.seen_is_confirmed.Goals as goal

pub returns : goal.returns
returns g c = seen_is_confirmed _ _ _
