use Rattle.std.proofs.Common.{◌≡◌, ◌∙◌, ◌&&◌, List, ap, drop, not, refl, subst, sym}
use Rattle.std.specs.List.{list_all}
use Rattle.gn_rules.specs.declared.receipt.Step.{Step}
use Rattle.gn_rules.specs.History.{closed_of, is_at, is_close}
use Rattle.gn_report.specs.Actors.{is_awaited_reader}
use Rattle.gn_report.specs.BodyEnds.{is_settled}
use Rattle.gn_report.specs.Survey.{AreSettled, IsReadUntil}
use Rattle.gn_report.proofs.ComparedLemmas.{and_off, and_on}
use Rattle.gn_report.proofs.ends.is_last_close.Goals as goal
use Rattle.gn_report.proofs.ends.is_last_close.Goals.{then-closes, else-closes, then-is_empty_close, else-is_empty_close}

pub is_settled_at-requires : goal.is_settled_at-requires
is_settled_at-requires g c = λ e.
    subst (λ (xs : List (Step _)). AreSettled c.as_slice.result.now xs) (sym c.as_slice-then-is_empty_close.ensures.value)
    (subst (λ links. AreSettled links c.args.report.now.history.items) (sym c.as_slice.ensures.value) (c.requires.settled e))

pub is_read_by-requires : goal.is_read_by-requires
is_read_by-requires g c =
    subst (λ (xs : List (Step _)). IsReadUntil c.args.roles.now xs c.args.survey.now.read) (sym c.as_slice-then-is_settled_at.ensures.value) c.requires.read

pub returns-then-is_settled_at : goal.returns-then-is_settled_at
returns-then-is_settled_at g c =
    let r = c.args.receipt.now in
    let steps = c.args.report.now.history.items in
    let closes = is_close c.args.c r.event in
    let empty = is_at 0 (closed_of r.reply) in
    let settled = is_settled steps r.index in
    let first : c.if-closes.value ≡ (closes && empty) = elim c.if-closes.branch as (λ x. c.if-closes.value ≡ (closes && empty)) [
      | then-closes w ↦ and_on _ _ _ closes empty w.if-closes.true c.closes.ensures w.value-is w.is_empty_close.ensures
      | else-closes w ↦ and_off _ _ closes empty w.if-closes.false c.closes.ensures (w.value-is ∙ w.if-closes.false)
    ] in
    let second : c.if-is_empty_close.value ≡ (closes && empty && settled) = elim c.if-is_empty_close.branch as (λ x. c.if-is_empty_close.value ≡ (closes && empty && settled)) [
      | then-is_empty_close w ↦ and_on _ _ _ (closes && empty) settled w.if-is_empty_close.true first w.value-is
          (w.is_settled_at.ensures ∙ ap (λ (xs : List (Step _)). is_settled xs r.index) w.as_slice-then-is_empty_close.ensures.value)
      | else-is_empty_close w ↦ and_off _ _ (closes && empty) settled w.if-is_empty_close.false first (w.value-is ∙ w.if-is_empty_close.false)
    ] in
    and_on _ _ _ (closes && empty && settled) _ c.if-is_settled_at.true second refl
    (c.is_read_by.ensures ∙ ap (λ (xs : List (Step _)). list_all (λ step. not (is_awaited_reader c.args.roles.now step.actor)) (drop r.index xs)) c.as_slice-then-is_settled_at.ensures.value)

pub returns-else-is_settled_at : goal.returns-else-is_settled_at
returns-else-is_settled_at g c =
    let r = c.args.receipt.now in
    let steps = c.args.report.now.history.items in
    let closes = is_close c.args.c r.event in
    let empty = is_at 0 (closed_of r.reply) in
    let settled = is_settled steps r.index in
    let first : c.if-closes.value ≡ (closes && empty) = elim c.if-closes.branch as (λ x. c.if-closes.value ≡ (closes && empty)) [
      | then-closes w ↦ and_on _ _ _ closes empty w.if-closes.true c.closes.ensures w.value-is w.is_empty_close.ensures
      | else-closes w ↦ and_off _ _ closes empty w.if-closes.false c.closes.ensures (w.value-is ∙ w.if-closes.false)
    ] in
    let second : c.if-is_empty_close.value ≡ (closes && empty && settled) = elim c.if-is_empty_close.branch as (λ x. c.if-is_empty_close.value ≡ (closes && empty && settled)) [
      | then-is_empty_close w ↦ and_on _ _ _ (closes && empty) settled w.if-is_empty_close.true first w.value-is
          (w.is_settled_at.ensures ∙ ap (λ (xs : List (Step _)). is_settled xs r.index) w.as_slice-then-is_empty_close.ensures.value)
      | else-is_empty_close w ↦ and_off _ _ (closes && empty) settled w.if-is_empty_close.false first (w.value-is ∙ w.if-is_empty_close.false)
    ] in
    and_off _ _ (closes && empty && settled) _ c.if-is_settled_at.false second c.if-is_settled_at.false
