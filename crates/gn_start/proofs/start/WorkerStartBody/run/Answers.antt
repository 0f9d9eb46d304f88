use Rattle.gn_start.proofs.RouteLemmas.{routes_alone}
use Rattle.gn_start.proofs.start.WorkerStartBody.run.Goals as goal

pub returns : goal.returns
returns g c = record { number = c.worker_body.ensures.number; routed = routes_alone c.worker_body.result.actor c.worker_body.ensures.routes }
