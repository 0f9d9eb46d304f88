use Rattle.std.proofs.Common.{◌∙◌, ◌+◌, ◌||◌, Bool, ap, drop, refl, sym}
use Rattle.std.specs.List.{list_any}
use Rattle.std.proofs.lemmas.List.{at_drop_all}
use Rattle.gn_rules.specs.declared.receipt.Receipt.{Receipt}
use Rattle.gn_report.specs.BodyEnds.{is_settled}
use Rattle.gn_report.proofs.ComparedLemmas.{any_here, is_last_close}
use Rattle.gn_report.proofs.ends.has_last_close.Goals as goal

pub loop-receipt-init : goal.loop-receipt-init
loop-receipt-init g c = refl

pub is_last_close-requires : goal.is_last_close-requires
is_last_close-requires g c = c.requires

pub returns-then-is_last_close : goal.returns-then-is_last_close
returns-then-is_last_close g c = λ writer role.
    let steps = c.args.report.now.history.items in
    let is_last : Receipt _ → Bool = λ r. is_last_close (is_settled steps) c.args.roles.now steps c.args.c r in
    let i = c.loop-receipt.receipt-index in
    sym (c.loop-receipt.invariant ∙ any_here is_last c.args.own.now i c.receipt-item.result c.loop-receipt-test.true c.receipt-item.is
    ∙ ap (λ b. b || list_any is_last (drop (i + 1) c.args.own.now)) (sym c.is_last_close.ensures ∙ c.if-is_last_close.true))

pub loop-receipt-preserved : goal.loop-receipt-preserved
loop-receipt-preserved g c =
    let steps = c.args.report.now.history.items in
    let is_last : Receipt _ → Bool = λ r. is_last_close (is_settled steps) c.args.roles.now steps c.args.c r in
    let i = c.loop-receipt.receipt-index in
    c.loop-receipt.invariant ∙ any_here is_last c.args.own.now i c.receipt-item.result c.loop-receipt-test.true c.receipt-item.is
    ∙ ap (λ b. b || list_any is_last (drop (i + 1) c.args.own.now)) (sym c.is_last_close.ensures ∙ c.if-is_last_close.false)

pub returns : goal.returns
returns g c = λ writer role.
    let steps = c.args.report.now.history.items in
    let is_last : Receipt _ → Bool = λ r. is_last_close (is_settled steps) c.args.roles.now steps c.args.c r in
    sym (c.loop-receipt.invariant ∙ at_drop_all (list_any is_last) c.args.own.now c.loop-receipt.receipt-index c.loop-receipt-test.false)
