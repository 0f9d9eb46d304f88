use Rattle.std.proofs.Common.{rules}
use Rattle.gn_threads.proofs.FaultLemmas.{handed_on as fault_of}
use Rattle.gn_service.proofs.RoleLemmas.{one_left}
use Rattle.gn_service.proofs.peers.PeersArrivals.next.Goals as goal

pub returns-clause-made : goal.returns-clause-made
returns-clause-made g c = (one_left c.args.self.now.called.now c.args.self.now.next c.in-Some-Some.next c.args.self.now.left c.in-Some-Some.left c.in-Ok.halves.0.origin (search rules) (search rules) (search rules), search rules)

pub returns-in_err-meet-clause-fault : goal.returns-in_err-meet-clause-fault
returns-in_err-meet-clause-fault g c = fault_of _ c.from_residual.result _ c.from_residual.ensures.1 c.in_err-meet.ensures.fault
