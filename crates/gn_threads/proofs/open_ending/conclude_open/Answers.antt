use Rattle.std.proofs.Common.{◌+◌, ◌<◌, arith, subst, sym}
use Rattle.gn_start.specs.Faults.{IsArrivingFault}
use Rattle.gn_threads.proofs.FaultLemmas.{in_arriving}
use Rattle.gn_threads.proofs.open_ending.conclude_open.Goals as goal

pub returns-in-Err-clause-fault : goal.returns-in-Err-clause-fault
returns-in-Err-clause-fault g c = λ has_peers may.
    let workers = c.args.workers in
    let below : c.args.left.house.number < 0 + 0 + workers + 1 = omega (arith, c.requires.house) in
    let at_fault = rw c.in-Err.is at c.confirm_open-answer.ensures.fault in
    (0, subst (λ fault. IsArrivingFault has_peers 0 workers fault) (sym c.halt_alone-in-Err.ensures.fault.0) (in_arriving has_peers 0 workers c.in-Err.fault (at_fault 0 workers below)))
