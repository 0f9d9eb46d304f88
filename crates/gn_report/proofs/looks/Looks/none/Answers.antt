use Rattle.std.proofs.Common.{refl}
use Rattle.gn_report.proofs.CountsLemmas.{counted_none}
use Rattle.gn_report.proofs.looks.Looks.none.Goals as goal

pub returns : goal.returns
returns g c = counted_none _ refl
