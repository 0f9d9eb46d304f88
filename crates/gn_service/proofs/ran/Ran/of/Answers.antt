use Rattle.std.proofs.Common.{ap}
use Rattle.gn_report.specs.declared.unkept.Unkept.{Unkept}
use Rattle.gn_service.proofs.KeptLemmas.{ran_as}
use Rattle.gn_service.proofs.ran.Ran.of.Goals as goal

pub returns : goal.returns
returns g c =
    ran_as c.args.account.now c.of-history.result.value.items c.of-sockets.result.items (ap (λ (h : Unkept _). h.items) c.of-history.ensures) c.of-sockets.ensures
