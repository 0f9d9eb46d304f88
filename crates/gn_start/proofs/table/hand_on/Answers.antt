use Rattle.std.proofs.Common.{Some, set, subst, sym}
use Rattle.gn_report.specs.Looks.{AreCounted}
use Rattle.gn_report.specs.declared.account.LinkEnd.{LinkEnd}
use Rattle.gn_report.proofs.CountsLemmas.{counted_cut}
use Rattle.gn_start.proofs.table.hand_on.Goals as goal

pub returns-in-Cut-clause-counted : goal.returns-in-Cut-clause-counted
returns-in-Cut-clause-counted g c = λ all none are.
    subst (λ (e : LinkEnd g.row.Rd.Denot g.row.W.Denot g.row.A.Denot). AreCounted c.args.looks.now (set all c.args.link (Some e))) (sym c.in-Cut.is) (counted_cut c.args.looks.now all c.args.link c.in-Cut.tally none are)
