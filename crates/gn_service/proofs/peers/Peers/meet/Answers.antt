use Rattle.std.proofs.Common.{None, Some, slice_get}
use Rattle.std.proofs.lemmas.Result.{IfOk-weaker}
use Rattle.gn_shake.specs.declared.role.Role.TheVariants.{Accepting, Calling}
use Rattle.gn_service.proofs.RoleLemmas.{met_as, no_peer, peer_is}
use Rattle.gn_service.proofs.peers.Peers.meet.Goals as goal

pub returns-in-Calling-Some-clause-found : goal.returns-in-Calling-Some-clause-found
returns-in-Calling-Some-clause-found g c =
    IfOk-weaker _ _ _ (λ found is. met_as found c.args.role Calling (slice_get c.args.self.now.called.now c.args.link) (Some c.in-Calling-Some.peer.now) is c.in-Calling-Some.is-0
    (peer_is c.args.self.now.called.now c.args.link c.get.result c.in-Calling-Some.peer c.get.ensures.lookup c.in-Calling-Some.is-1)) c.called.ensures.found

pub returns-in-Accepting-None-clause-found : goal.returns-in-Accepting-None-clause-found
returns-in-Accepting-None-clause-found g c =
    IfOk-weaker _ _ _ (λ found is. met_as found c.args.role Accepting (slice_get c.args.self.now.called.now c.args.link) None is c.in-Accepting-None.is-0
    (no_peer c.args.self.now.called.now c.args.link c.get.result c.get.ensures.lookup c.in-Accepting-None.is-1)) c.accepted.ensures.found
