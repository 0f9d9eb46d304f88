use Rattle.std.proofs.Common.{◌∙◌, sym}
use Rattle.gn_report.proofs.SurveyLemmas.{no_writer, writer_past, writer_there}
use Rattle.gn_report.proofs.survey.is_drained_writer.Goals as goal

pub returns-then-place-links : goal.returns-then-place-links
returns-then-place-links g c = sym (no_writer c.args.links.now c.args.actor c.if-place-links.true)

pub overflow_sub-place : goal.overflow_sub-place
overflow_sub-place g c = c.if-place-links.false

pub returns-in-Some : goal.returns-in-Some
returns-in-Some g c =
    let at = c.in-Some.ensures.lookup in
    c.is_drained.ensures ∙ sym (writer_there c.args.links.now c.args.actor c.in-Some.link.now c.if-place-links.false at.3.0 at.1)

pub returns-in-None : goal.returns-in-None
returns-in-None g c = sym (writer_past c.args.links.now c.args.actor c.if-place-links.false c.in-None.ensures.lookup.3)
