use Rattle.std.proofs.Common.{◌==◌, ◌&&◌, ◌∙◌, List, Some, ap, length, sym}
use Rattle.gn_rules.specs.declared.receipt.Receipt.{Receipt}
use Rattle.gn_rules.specs.declared.receipt.Step.{Step}
use Rattle.gn_shake.specs.Greeting.{is_calling}
use Rattle.gn_bodies.specs.declared.ends.WriterEnd.TheVariants.{Drained}
use Rattle.gn_report.specs.declared.closes.Closer.TheVariants.{Anyone, Except}
use Rattle.gn_report.specs.BodyEnds.{is_settled, is_writer_end, has_close}
use Rattle.gn_report.proofs.ComparedLemmas.{or_off, or_on}
use Rattle.gn_report.proofs.ends.is_open_end.Goals as goal

pub has_last_close-requires : goal.has_last_close-requires
has_last_close-requires g c = c.requires

pub returns-in-Drained : goal.returns-in-Drained
returns-in-Drained g c =
    let steps = c.args.report.now.history.items in
    let own = c.args.link.now.writer_receipts.items in
    c.has_last_close.ensures c.args.writer c.args.role
    ∙ ap (λ (rs : List (Receipt _)). is_writer_end (is_settled steps) c.args.roles.now steps c.args.writer c.args.role rs Drained (Some c.args.c)) c.as_slice-own.ensures.value
    ∙ ap (λ end. is_writer_end (is_settled steps) c.args.roles.now steps c.args.writer c.args.role own end (Some c.args.c)) (sym c.in-Drained.is)

pub returns-in-Closed : goal.returns-in-Closed
returns-in-Closed g c =
    let steps = c.args.report.now.history.items in
    let own = c.args.link.now.writer_receipts.items in
    c.has_close.ensures
    ∙ ap (λ (xs : List (Step _)). has_close (Except c.args.writer) xs c.args.c) c.as_slice-steps.ensures.value
    ∙ ap (λ end. is_writer_end (is_settled steps) c.args.roles.now steps c.args.writer c.args.role own end (Some c.args.c)) (sym c.in-Closed.is)

pub returns-then-failed_in_request : goal.returns-then-failed_in_request
returns-then-failed_in_request g c =
    let steps = c.args.report.now.history.items in
    let own = c.args.link.now.writer_receipts.items in
    or_on c.failed_in_request.result (is_calling c.args.role && (length own == 0)) (has_close Anyone steps c.args.c) c.if-failed_in_request.true
    (c.failed_in_request.ensures ∙ ap (λ (rs : List (Receipt _)). is_calling c.args.role && (length rs == 0)) c.as_slice-own.ensures.value)
    ∙ ap (λ end. is_writer_end (is_settled steps) c.args.roles.now steps c.args.writer c.args.role own end (Some c.args.c)) (sym c.in-WriteFailed.is)

pub returns-else-failed_in_request : goal.returns-else-failed_in_request
returns-else-failed_in_request g c =
    let steps = c.args.report.now.history.items in
    let own = c.args.link.now.writer_receipts.items in
    or_off c.has_close-else-failed_in_request.result c.failed_in_request.result (is_calling c.args.role && (length own == 0)) (has_close Anyone steps c.args.c) c.if-failed_in_request.false
    (c.failed_in_request.ensures ∙ ap (λ (rs : List (Receipt _)). is_calling c.args.role && (length rs == 0)) c.as_slice-own.ensures.value)
    (c.has_close-else-failed_in_request.ensures ∙ ap (λ (xs : List (Step _)). has_close Anyone xs c.args.c) c.as_slice-steps.ensures.value)
    ∙ ap (λ end. is_writer_end (is_settled steps) c.args.roles.now steps c.args.writer c.args.role own end (Some c.args.c)) (sym c.in-WriteFailed.is)

pub returns-in-NeverOpened : goal.returns-in-NeverOpened
returns-in-NeverOpened g c =
    let steps = c.args.report.now.history.items in
    let own = c.args.link.now.writer_receipts.items in
    ap (λ end. is_writer_end (is_settled steps) c.args.roles.now steps c.args.writer c.args.role own end (Some c.args.c)) (sym c.in-NeverOpened.is)
