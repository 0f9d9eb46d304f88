use Rattle.std.proofs.Common.{arith}
use Rattle.gn_threads.proofs.FaultLemmas.{in_arriving}
use Rattle.gn_threads.proofs.settling.settle.Goals as goal

pub returns-in-Err-route_left-clause-fault : goal.returns-in-Err-route_left-clause-fault
returns-in-Err-route_left-clause-fault g c =
    λ has_peers links workers may below. in_arriving has_peers links workers c.of_body.result (c.of_body.ensures links workers (omega (arith, below, c.number-number.ensures)))
