use Rattle.gn_report.specs.Routes.{RoutesNotNear}
use Rattle.gn_report.proofs.routes.route_near.Given as goal

abbrev pub invariant-loop-apart : goal.invariant-loop-apart
invariant-loop-apart g l = RoutesNotNear l.t l.steps l.near l.apart
