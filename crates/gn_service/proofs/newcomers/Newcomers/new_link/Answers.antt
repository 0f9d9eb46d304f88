use Rattle.gn_service.proofs.FaultLemmas.{handed_on}
use Rattle.gn_service.proofs.newcomers.Newcomers.new_link.Goals as goal

pub returns-in_err-found-clause-fault : goal.returns-in_err-found-clause-fault
returns-in_err-found-clause-fault g c = handed_on c.args.link c.from_residual.result _ c.from_residual.ensures.1 c.in_err-found.ensures.fault
