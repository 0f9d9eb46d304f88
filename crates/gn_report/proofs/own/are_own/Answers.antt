use Rattle.std.proofs.Common.{◌∙◌, rules, length, sym}
use Rattle.std.proofs.lemmas.Bool.{eq-eqb, eqb-true}
use Rattle.gn_laws.proofs.FittingLemmas.{fitting_is_mine}
use Rattle.gn_report.proofs.own.are_own.Goals as goal

pub returns-then-are_fitting : goal.returns-then-are_fitting
returns-then-are_fitting g c =
    let law = fitting_is_mine _ c.args.steps.now c.args.actor c.args.receipts.now in
    let fits = c.are_fitting.ensures.0 (search rules) in (
      (λ e. law.1 (fits, eqb-true (length c.args.receipts.now) c.steps_of.result e ∙ c.steps_of.ensures)),
      (λ own. eq-eqb (length c.args.receipts.now) c.steps_of.result ((law.0 own).1 ∙ sym c.steps_of.ensures)),
    )

pub returns-else-are_fitting : goal.returns-else-are_fitting
returns-else-are_fitting g c = (
  (λ e. cc),
  (λ own. let fits = ((fitting_is_mine _ c.args.steps.now c.args.actor c.args.receipts.now).0 own).0 in search (rules, fits)),
)
