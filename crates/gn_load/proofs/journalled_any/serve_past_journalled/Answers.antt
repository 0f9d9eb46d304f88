use Rattle.std.proofs.Common.{is_some}
use Rattle.gn_service.specs.Any.{IsAnyAccount, IsResumedAccount}
use Rattle.gn_load.specs.Any.{IsPastAccount}
use Rattle.gn_load.proofs.AnyLemmas.{journalled_less, unbegun}
use Rattle.gn_load.proofs.JournalLemmas.{arriving_fault}
use Rattle.gn_load.proofs.journalled_any.serve_past_journalled.Goals as goal

pub returns-in-Ok-clause-resumed : goal.returns-in-Ok-clause-resumed
returns-in-Ok-clause-resumed g c =
    let s = c.args.serve.now in
    journalled_less (λ account. IsPastAccount (g.P.Past.recalls c.args.past) s.accept.again (is_some s.accept.pings) s.batch s.config.now s.peers.now s.workers account)
    (λ account. IsResumedAccount s.accept.again s.config.now s.peers.now s.workers account) (λ account is. is.0) s.config.now s.workers
    (g.W.Sink.state c.args.sink.now) (g.W.Sink.state c.serve_past_named.new.sink) c.serve_past_named.result c.serve_past_named.ensures

pub returns-in-Ok-clause-any : goal.returns-in-Ok-clause-any
returns-in-Ok-clause-any g c = λ none.
    let s = c.args.serve.now in
    journalled_less (λ account. IsPastAccount (g.P.Past.recalls c.args.past) s.accept.again (is_some s.accept.pings) s.batch s.config.now s.peers.now s.workers account)
    (λ account. IsAnyAccount s.accept.again (is_some s.accept.pings) s.batch s.config.now s.peers.now s.workers account) (λ account is. is.1 none) s.config.now s.workers
    (g.W.Sink.state c.args.sink.now) (g.W.Sink.state c.serve_past_named.new.sink) c.serve_past_named.result c.serve_past_named.ensures

pub returns-in-Err-clause-resumed : goal.returns-in-Err-clause-resumed
returns-in-Err-clause-resumed g c =
    let s = c.args.serve.now in
    unbegun (λ account. IsResumedAccount s.accept.again s.config.now s.peers.now s.workers account) s.config.now s.workers (g.W.Sink.state c.args.sink.now) c.unbegun.result c.in-Err.fault
    c.unbegun.ensures c.in-Err.ensures.bad_workers (λ crew. arriving_fault 0 s.workers c.in-Err.fault (c.in-Err.ensures.fault crew))

pub returns-in-Err-clause-any : goal.returns-in-Err-clause-any
returns-in-Err-clause-any g c = λ none.
    let s = c.args.serve.now in
    unbegun (λ account. IsAnyAccount s.accept.again (is_some s.accept.pings) s.batch s.config.now s.peers.now s.workers account) s.config.now s.workers (g.W.Sink.state c.args.sink.now) c.unbegun.result c.in-Err.fault
    c.unbegun.ensures c.in-Err.ensures.bad_workers (λ crew. arriving_fault 0 s.workers c.in-Err.fault (c.in-Err.ensures.fault crew))
