use Rattle.gn_report.proofs.CountsLemmas.{right_when}
use Rattle.gn_report.proofs.looks.Looks.are_right.Goals as goal

pub returns : goal.returns
returns c = right_when c.args.self.now _ _ c.is_before-read.ensures c.is_before-called.ensures
