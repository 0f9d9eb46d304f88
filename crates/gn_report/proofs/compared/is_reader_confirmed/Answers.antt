use Rattle.std.proofs.Common.{◌≡◌, ◌≤◌, ◌∙◌, ap, subst, sym, true}
use Rattle.std.specs.List.{count_by, list_all}
use Rattle.std.proofs.lemmas.Bool.{le-leb, leb-true}
use Rattle.gn_rules.specs.declared.receipt.Receipt.{Receipt}
use Rattle.gn_laws.specs.Owners.{is_readers}
use Rattle.gn_report.specs.BodyEnds.{is_connect, is_reader_end}
use Rattle.gn_report.proofs.ConnLemmas.{conn_made}
use Rattle.gn_report.proofs.ComparedLemmas.{clash, reader_by_end}
use Rattle.gn_report.proofs.compared.is_reader_confirmed.Goals as goal
use Rattle.gn_report.proofs.compared.is_reader_confirmed.Goals.{then-is_same_conn, else-is_same_conn, then-are_readers, else-are_readers}

pub returns-then-connects-le1 : goal.returns-then-connects-le1
returns-then-connects-le1 g c =
    let link = c.args.link.now in
    let own = c.as_slice-own.result.now in
    let second : (c.if-is_same_conn.value ≡ true) × (count_by (λ r. is_connect r.event) own ≤ 1) =
    elim c.if-are_readers.branch as (λ x. (c.if-is_same_conn.value ≡ true) × (count_by (λ (r : Receipt _). is_connect r.event) own ≤ 1)) [
      | then-are_readers w ↦ (w.if-are_readers.true, subst (λ n. n ≤ 1) w.connects.ensures (leb-true w.connects.result 1 (sym w.value-is ∙ c.if-connects-le1.true)))
      | else-are_readers w ↦ clash c.if-are_readers.value c.if-connects-le1.true (w.value-is ∙ w.if-are_readers.false)
    ] in
    let first : (link.conn ≡ conn_made own) × (list_all (λ r. is_readers link.conn r.event) own ≡ true) =
    elim c.if-is_same_conn.branch as (λ x. (link.conn ≡ conn_made own) × (list_all (λ (r : Receipt _). is_readers link.conn r.event) own ≡ true)) [
      | then-is_same_conn w ↦ (c.is_same_conn.ensures.0 w.if-is_same_conn.true ∙ c.conn_of.ensures, sym w.are_readers.ensures ∙ sym w.value-is ∙ second.0)
      | else-is_same_conn w ↦ clash c.if-is_same_conn.value second.0 (w.value-is ∙ w.if-is_same_conn.false)
    ] in
    reader_by_end c.args.steps.now c.args.survey.now.all_call c.args.writer c.args.role link own c.is_reader_end.result c.as_slice-own.ensures.value first.0 first.1 second.1
    (c.is_reader_end.ensures ∙ ap (λ b. is_reader_end c.args.steps.now c.args.writer b link.reader_receipts.items link.reader_end link.conn) c.may_close_first-first.ensures)

pub returns-else-connects-le1 : goal.returns-else-connects-le1
returns-else-connects-le1 g c = (
  (λ e. clash c.if-are_readers.value e c.if-connects-le1.false),
  (λ h.
      let link = c.args.link.now in
      let same = sym c.as_slice-own.ensures.value in
      let first : c.if-is_same_conn.value ≡ true = elim c.if-is_same_conn.branch as (λ x. c.if-is_same_conn.value ≡ true) [
        | then-is_same_conn w ↦ w.value-is ∙ w.are_readers.ensures ∙ ap (λ rs. list_all (λ (r : Receipt _). is_readers link.conn r.event) rs) (sym same) ∙ h.events
        | else-is_same_conn w ↦ clash c.is_same_conn.result (c.is_same_conn.ensures.1 (h.conn ∙ ap conn_made same ∙ sym c.conn_of.ensures)) w.if-is_same_conn.false
      ] in
      elim c.if-are_readers.branch as (λ x. c.if-are_readers.value ≡ true) [
        | then-are_readers w ↦ w.value-is ∙ le-leb w.connects.result 1 (subst (λ n. n ≤ 1) (sym (w.connects.ensures ∙ ap (λ rs. count_by (λ (r : Receipt _). is_connect r.event) rs) (sym same))) h.once)
        | else-are_readers w ↦ clash c.if-is_same_conn.value first w.if-are_readers.false
      ]),
)
