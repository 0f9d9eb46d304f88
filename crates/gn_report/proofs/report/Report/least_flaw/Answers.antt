use Rattle.std.proofs.Common.{below_more, rules}
use Rattle.gn_report.specs.BodyEnds.{is_settled}
use Rattle.gn_report.specs.Flaw.{IsConfirmed}
use Rattle.gn_report.proofs.report.Report.least_flaw.Goals as goal

pub loop-actor-preserved : goal.loop-actor-preserved
loop-actor-preserved g c =
    below_more (λ a. IsConfirmed (is_settled c.args.self.now.history.items) c.args.roles.now c.args.self.now a) c.loop-actor.actor
    c.loop-actor.invariant (c.is_confirmed.ensures.0 (search rules))
