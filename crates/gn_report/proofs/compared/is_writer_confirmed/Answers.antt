use Rattle.std.proofs.Common.{◌∙◌, ap, sym}
use Rattle.std.specs.List.{list_all}
use Rattle.gn_rules.specs.declared.receipt.Receipt.{Receipt}
use Rattle.gn_laws.specs.Owners.{is_writers}
use Rattle.gn_report.specs.BodyEnds.{is_settled}
use Rattle.gn_report.proofs.ComparedLemmas.{clash, writer_by_end}
use Rattle.gn_report.proofs.compared.is_writer_confirmed.Goals as goal

pub returns-then-are_writers : goal.returns-then-are_writers
returns-then-are_writers g c =
    let link = c.args.link.now in
    let steps = c.args.report.now.history.items in
    writer_by_end (is_settled steps) c.args.roles.now steps c.args.actor c.args.role link _ c.is_writer_end.result c.as_slice.ensures.value
    (sym c.are_writers.ensures ∙ c.if-are_writers.true) c.is_writer_end.ensures

pub returns-else-are_writers : goal.returns-else-are_writers
returns-else-are_writers g c = (
  (λ e. clash c.are_writers.result e c.if-are_writers.false),
  (λ h. c.are_writers.ensures ∙ ap (λ rs. list_all (λ (r : Receipt _). is_writers c.args.link.now.conn r.event) rs) c.as_slice.ensures.value ∙ h.events),
)
