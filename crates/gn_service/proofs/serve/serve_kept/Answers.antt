use Rattle.std.proofs.Common.{◌≡◌, ◌∙◌, Ok, Err, subst}
use Rattle.std.specs.Prelude.{IfSome}
use Rattle.gn_threads.specs.Answers.{halted_views}
use Rattle.gn_threads.proofs.CourseLemmas.{err_of, ok_of}
use Rattle.gn_service.specs.Serves.{IsServed, served_account}
use Rattle.gn_service.proofs.KeptLemmas.{held_err, held_ok, ran_told}
use Rattle.gn_service.proofs.ServedLemmas.{served_told, served_stopped, untold}
use Rattle.gn_service.proofs.serve.serve_kept.Goals as goal

pub tell-requires-clause-steps : goal.tell-requires-clause-steps
tell-requires-clause-steps g c =
    let rest = c.serve_by-answer.ensures.rest in
    held_ok c.serve_by-answer.result.0 (c.in-Ok-answer.account, c.in-Ok-answer.ran) _ _ c.in-Ok-answer.is rest.held ∙ rest.left

pub tell-requires-clause-own : goal.tell-requires-clause-own
tell-requires-clause-own g c = (ok_of c.serve_by-answer.result.0 (c.in-Ok-answer.account, c.in-Ok-answer.ran) _ c.in-Ok-answer.is c.serve_by-answer.ensures.served.answered.run.holds).own.0

pub stopped_by-requires : goal.stopped_by-requires
stopped_by-requires g c =
    let rest = c.serve_by-answer.ensures.rest in
    subst (λ steps. IfSome c.in-Err.halted.history (λ history. history.items ≡ steps)) rest.left (held_err c.serve_by-answer.result.0 c.in-Err.halted _ _ c.in-Err.is rest.held)

pub returns-in-Ok-tell-clause-served : goal.returns-in-Ok-tell-clause-served
returns-in-Ok-tell-clause-served g c =
    let serve = c.args.serve.now in
    let batch = serve.batch in
    let s = serve.config.now in
    let peers = serve.peers.now in
    let accept = serve.accept in
    let workers = serve.workers in
    let answer = c.serve_by-answer.result.0 in
    let served = c.serve_by-answer.ensures.served in
    let account = c.in-Ok-answer.account in
    served_told batch s peers accept workers account c.in-Ok-answer.ran c.in-Ok-tell.report c.in-Ok-answer.ran (ok_of c.tell.result c.in-Ok-tell.report _ c.in-Ok-tell.is c.tell.ensures.told)
    (subst (λ answer. IsServed batch s peers accept workers served_account halted_views answer) c.in-Ok-answer.is served)

pub returns-in-Ok-tell-clause-ran : goal.returns-in-Ok-tell-clause-ran
returns-in-Ok-tell-clause-ran g c =
    ok_of c.serve_by-answer.result.0 (c.in-Ok-answer.account, c.in-Ok-answer.ran) _ c.in-Ok-answer.is c.serve_by-answer.ensures.ran
    ∙ ran_told c.in-Ok-answer.account c.in-Ok-tell.report (ok_of c.tell.result c.in-Ok-tell.report _ c.in-Ok-tell.is c.tell.ensures.told)

pub returns-in-Err-tell-clause-served : goal.returns-in-Err-tell-clause-served
returns-in-Err-tell-clause-served g c =
    let serve = c.args.serve.now in
    let batch = serve.batch in
    let s = serve.config.now in
    let peers = serve.peers.now in
    let accept = serve.accept in
    let workers = serve.workers in
    let answer = c.serve_by-answer.result.0 in
    let served = c.serve_by-answer.ensures.served in
    untold batch s peers accept workers c.in-Ok-answer.account c.in-Ok-answer.ran c.in-Err-tell.stopped (err_of c.tell.result c.in-Err-tell.stopped _ c.in-Err-tell.is c.tell.ensures.fault)
    (subst (λ answer. IsServed batch s peers accept workers served_account halted_views answer) c.in-Ok-answer.is served)

pub returns-in-Err-clause-served : goal.returns-in-Err-clause-served
returns-in-Err-clause-served g c =
    let serve = c.args.serve.now in
    let batch = serve.batch in
    let s = serve.config.now in
    let peers = serve.peers.now in
    let accept = serve.accept in
    let workers = serve.workers in
    let answer = c.serve_by-answer.result.0 in
    let served = c.serve_by-answer.ensures.served in
    served_stopped batch s peers accept workers c.in-Err.halted c.stopped_by.result (c.stopped_by.ensures.fault, c.stopped_by.ensures.history)
    (subst (λ answer. IsServed batch s peers accept workers served_account halted_views answer) c.in-Err.is served)
