use Rattle.std.proofs.Common.{◌≡◌, List, length, subst}
use Rattle.gn_rules.specs.declared.receipt.Step.{Step}
use Rattle.gn_report.specs.BodyEnds.{is_settled}
use Rattle.gn_report.specs.Survey.{AreSettled, IsReadUntil}
use Rattle.gn_report.proofs.report.Report.survey.Goals as goal

pub returns : goal.returns
returns g c = record {
  own = c.are_all_own.ensures;
  calls = c.do_all_call-all_call.ensures;
  routed = subst (λ (xs : List (Step _)). c.routes_in-routes.result.are_all ≡ is_settled xs (length xs)) c.as_slice-2.ensures.value c.routes_in-routes.ensures.all;
  settled = λ e. subst (λ (xs : List (Step _)). AreSettled c.args.self.now.links.items xs) c.as_slice-2.ensures.value
      (subst (λ links. AreSettled links c.as_slice-2.result.now) c.as_slice.ensures.value (c.routes_in-routes.ensures.settled e));
  read = subst (λ (xs : List (Step _)). IsReadUntil c.args.roles.now xs c.read_until.result) c.as_slice-3.ensures.value c.read_until.ensures;
}
