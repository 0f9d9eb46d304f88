use denote.Param.Send.{sendable}
use Rattle.std.proofs.Common.{◌∙◌, ap, is_some, subst}
use Rattle.std.specs.Prelude.{IfOk}
use Rattle.std.proofs.Crossing.{crosses}
use Rattle.std.proofs.CrossingOver as over
use Rattle.std.proofs.lemmas.Result.{IfOk-weaker}
use Rattle.gn_service.specs.Any.{IsAnyAccount}
use Rattle.gn_service.proofs.AnyLemmas.{from_first, resumed_first}
use Rattle.gn_service.proofs.any.Unlimited.over_links.Goals as goal

pub run_open-answer-requires-send-V-Reader : goal.run_open-answer-requires-send-V-Reader
run_open-answer-requires-send-V-Reader g c κs within = search (sendable, over.crosses, crosses) depth 60 fits 100000

pub run_open-answer-requires-send-V-Writer : goal.run_open-answer-requires-send-V-Writer
run_open-answer-requires-send-V-Writer g c κs within = search (sendable, over.crosses, crosses) depth 60 fits 100000

pub returns-clause-served : goal.returns-clause-served
returns-clause-served g c =
    let s = c.args.self.serve.now in
    let answer = c.run_open-answer.result.0 in
    record {
      answered = c.run_open-answer.ensures.answer;
      resumed = IfOk-weaker answer _ _ (λ account answered. resumed_first s.accept.again s.config.now s.peers.now s.workers account answered)
          c.run_open-answer.ensures.recalled;
      account = λ none.
          let recalls = ap g.P.Past.recalls c.new.ensures ∙ none in
          subst (λ pings. IfOk answer (λ account. IsAnyAccount s.accept.again (is_some pings) s.batch s.config.now s.peers.now s.workers account)) c.new-3.ensures
          (IfOk-weaker answer _ _ (λ account answered. from_first s.accept.again (is_some c.new-3.result.pings) s.batch s.config.now s.peers.now s.workers account answered)
          (c.run_open-answer.ensures.account recalls));
    }
