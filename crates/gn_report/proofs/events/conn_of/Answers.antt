use Rattle.std.proofs.Common.{◌∙◌, ◌+◌, ap, drop, refl, sym}
use Rattle.std.specs.Option.{option_or}
use Rattle.std.proofs.lemmas.List.{at_drop_all}
use Rattle.gn_report.proofs.ConnLemmas.{conn_made}
use Rattle.gn_report.proofs.ComparedLemmas.{made_here}
use Rattle.gn_report.proofs.events.conn_of.Goals as goal

pub loop-r-init : goal.loop-r-init
loop-r-init g c = refl

pub returns-in-Some : goal.returns-in-Some
returns-in-Some g c =
    let rest = conn_made (drop (c.loop-r.r-index + 1) c.args.receipts.now) in
    sym (c.loop-r.invariant ∙ made_here c.args.receipts.now c.loop-r.r-index c.r-item.result c.loop-r-test.true c.r-item.is
    ∙ ap (λ o. option_or o rest) (sym c.made_by.ensures ∙ c.in-Some.is))

pub loop-r-preserved : goal.loop-r-preserved
loop-r-preserved g c =
    let rest = conn_made (drop (c.loop-r.r-index + 1) c.args.receipts.now) in
    c.loop-r.invariant ∙ made_here c.args.receipts.now c.loop-r.r-index c.r-item.result c.loop-r-test.true c.r-item.is
    ∙ ap (λ o. option_or o rest) (sym c.made_by.ensures ∙ c.in_default.is)

pub returns : goal.returns
returns g c = sym (c.loop-r.invariant ∙ at_drop_all conn_made c.args.receipts.now c.loop-r.r-index c.loop-r-test.false)
