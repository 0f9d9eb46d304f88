use Rattle.std.proofs.Common.{is_some}
use Rattle.gn_threads.proofs.CourseLemmas.{left_on}
use Rattle.gn_service.proofs.AnyLemmas.{cut_steps, failed_for}
use Rattle.gn_service.proofs.any.Unlimited.run.Goals as goal

pub returns-in-Some-clause-served : goal.returns-in-Some-clause-served
returns-in-Some-clause-served g c =
    let s = c.args.self.serve.now in
    failed_for (g.P.Past.recalls c.args.self.past) s.accept.again (is_some s.accept.pings) s.batch s.config.now s.peers.now s.workers c.over_links-answer.result.0 c.cut_for.result c.in-Some.fault
    c.over_links-answer.ensures.served c.cut_for.ensures.fault c.cut_for.ensures.history c.in-Some.ensures.crew c.in-Some.ensures.full c.in-Some.ensures.fault

pub returns-in-Some-clause-rest : goal.returns-in-Some-clause-rest
returns-in-Some-clause-rest g c =
    left_on _ _ _ _ _ (λ steps held. cut_steps c.over_links-answer.result.0 c.cut_for.result c.cut_for.ensures.history steps held) c.over_links-answer.ensures.rest
