use Rattle.std.proofs.Common.{arith}
use Rattle.gn_report.proofs.RouteLemmas.{none_near}
use Rattle.gn_report.proofs.routes.route_near.Goals as goal

pub returns-clause-none : goal.returns-clause-none
returns-clause-none g c = none_near c.args.t c.args.steps.now c.args.near c.loop-apart.apart c.requires (omega arith) c.loop-apart.invariant
