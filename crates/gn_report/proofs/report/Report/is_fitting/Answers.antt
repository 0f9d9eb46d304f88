use Rattle.std.proofs.Common.{◌∙◌, List, ap, length, refl, rules, sym}
use Rattle.gn_rules.specs.declared.receipt.Step.{Step}
use Rattle.gn_report.specs.BodyEnds.{is_settled}
use Rattle.gn_report.proofs.PlaceLemmas.{house_is, reader_is, worker_is, writer_is}
use Rattle.gn_report.proofs.report.Report.is_fitting.Goals as goal

pub returns-then-place-n : goal.returns-then-place-n
returns-then-place-n g c =
    reader_is _ c.args.roles.now c.args.self.now _ c.args.actor _ c.args.survey.now.all_call c.as_slice-steps.result.now _ _ c.index.result.now
    c.is_reader_confirmed.ensures c.as_slice-steps.ensures.value c.requires.survey.calls (search rules) refl c.index.ensures (search rules) c.requires.roles

pub returns-then-place-n-2 : goal.returns-then-place-n-2
returns-then-place-n-2 g c =
    writer_is _ c.args.roles.now c.args.self.now _ c.args.actor _ _ _ c.index-then-place-n-2.result.now
    c.is_writer_confirmed.ensures refl c.index-then-place-n-2.ensures (search rules) (search rules) (search rules) c.requires.roles

pub returns-then-place-n-3 : goal.returns-then-place-n-3
returns-then-place-n-3 g c =
    worker_is _ c.args.roles.now c.args.self.now _ c.args.actor _ c.as_slice.result.now c.index-then-place-n-3.result.now
    ((λ is. sym c.are_routes.ensures ∙ is), (λ is. c.are_routes.ensures ∙ is)) c.as_slice.ensures.value c.index-then-place-n-3.ensures (search rules) (search rules) (search rules)

pub returns-else-place-n-3 : goal.returns-else-place-n-3
returns-else-place-n-3 g c =
    house_is c.args.roles.now c.args.self.now _ c.args.actor c.as_slice-steps.result.now c.as_slice-else-place-n-3.result.now
    c.is_house_confirmed.ensures c.as_slice-steps.ensures.value c.as_slice-else-place-n-3.ensures.value (search rules)

pub is_house_confirmed-requires : goal.is_house_confirmed-requires
is_house_confirmed-requires g c =
    c.requires.survey.routed ∙ ap (λ (xs : List (Step _)). is_settled xs (length xs)) (sym c.as_slice-steps.ensures.value)
