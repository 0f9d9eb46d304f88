use Rattle.gn_load.proofs.ServedLemmas.{unremembered, unremembered_fault}
use Rattle.gn_load.proofs.served.serve_history.Goals as goal

pub returns-in-Ok : goal.returns-in-Ok
returns-in-Ok g c = unremembered _ _ _ _ _ _ _ _ _ _ c.in-Ok.ensures

pub returns : goal.returns
returns g c = unremembered_fault _ _ _ _ _ _ _ _ _ c.in-Err.ensures
