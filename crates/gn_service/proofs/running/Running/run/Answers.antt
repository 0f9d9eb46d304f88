use Rattle.gn_threads.proofs.CourseLemmas.{left_on}
use Rattle.gn_service.proofs.ServedLemmas.{failed_for, failed_steps}
use Rattle.gn_service.proofs.running.Running.run.Goals as goal

pub returns-in-Some-clause-served : goal.returns-in-Some-clause-served
returns-in-Some-clause-served g c =
    let s = c.args.self.serve.now in
    failed_for s.batch s.config.now s.peers.now s.accept s.workers c.over_links-answer.result.0 c.failed_for.result c.in-Some.fault c.over_links-answer.ensures.served
    c.failed_for.ensures.fault c.failed_for.ensures.history c.failed_for.ensures.tallies c.in-Some.ensures.crew c.in-Some.ensures.full c.in-Some.ensures.fault

pub returns-in-Some-clause-rest : goal.returns-in-Some-clause-rest
returns-in-Some-clause-rest g c =
    left_on _ _ _ _ _ (λ steps held. failed_steps c.over_links-answer.result.0 c.failed_for.result c.failed_for.ensures.history steps held) c.over_links-answer.ensures.rest
