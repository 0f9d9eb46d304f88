use Rattle.gn_service.proofs.running.Running.watched.Goals as goal

pub returns-clause-served : goal.returns-clause-served
returns-clause-served g c = c.run_watched.ensures.0

pub returns-clause-rest : goal.returns-clause-rest
returns-clause-rest g c = c.run_watched.ensures.1
