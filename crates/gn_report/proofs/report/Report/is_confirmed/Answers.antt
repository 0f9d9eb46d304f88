use Rattle.std.proofs.Common.{◌∙◌, List, ap, sym}
use Rattle.gn_rules.specs.declared.receipt.Step.{Step}
use Rattle.gn_rules.specs.History.{mine}
use Rattle.gn_report.proofs.report.Report.is_confirmed.Goals as goal

pub is_own-requires : goal.is_own-requires
is_own-requires g c = λ e.
    c.receipts_of.ensures ∙ c.requires.survey.own e c.args.actor c.requires.actor
    ∙ ap (λ (xs : List (Step _)). mine xs c.args.actor) (sym c.as_slice.ensures.value)
