use Rattle.std.proofs.Common.{subst}
use Rattle.gn_report.specs.BodyEnds.{is_settled}
use Rattle.gn_report.specs.Flaw.{IsFlaw}
use Rattle.gn_report.proofs.ConfirmedLemmas.{confirmed, took_all}
use Rattle.gn_report.proofs.report.Report.flaw.Goals as goal

pub returns-clause-drained : goal.returns-clause-drained
returns-clause-drained g c = λ s k legal none below.
    let settled = is_settled c.args.self.now.history.items in
    took_all s settled c.args.roles.now c.args.self.now legal
    (confirmed settled c.args.roles.now c.args.self.now (subst (λ o. IsFlaw settled c.args.roles.now c.args.self.now o) none c.least_flaw.ensures)) k below
