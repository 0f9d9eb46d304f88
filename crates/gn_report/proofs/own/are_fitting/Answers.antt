use Rattle.std.proofs.Common.{rules}
use Rattle.gn_report.proofs.OwnLemmas.{fits_all, ascends_on, not_below, stand_on, stands_there}
use Rattle.gn_report.proofs.own.are_fitting.Goals as goal

pub returns-then-receipt-low : goal.returns-then-receipt-low
returns-then-receipt-low g c = (
  (λ e. cc),
  (λ fits. absurd (not_below c.args.steps.now c.args.actor c.loop-receipt.low c.loop-receipt.receipt-index c.args.receipts.now c.receipt-item.result
      c.loop-receipt-test.true c.receipt-item.is (search rules) c.loop-receipt.invariant.ascend fits)),
)

pub returns-then-not-stands : goal.returns-then-not-stands
returns-then-not-stands g c = (
  (λ e. cc),
  (λ fits. let stands = stands_there c.args.steps.now c.args.actor c.loop-receipt.receipt-index c.args.receipts.now c.receipt-item.result c.loop-receipt-test.true c.receipt-item.is fits in
      search (rules, stands)),
)

pub loop-receipt-preserved : goal.loop-receipt-preserved
loop-receipt-preserved g c = record {
  ascend = ascends_on c.loop-receipt.low c.loop-receipt.receipt-index c.args.receipts.now c.receipt-item.result c.loop-receipt-test.true c.receipt-item.is (search rules) c.loop-receipt.invariant.ascend;
  stand = stand_on c.args.steps.now c.args.actor c.loop-receipt.receipt-index c.args.receipts.now c.receipt-item.result c.loop-receipt-test.true c.receipt-item.is (c.stands.ensures.0 (search rules)) c.loop-receipt.invariant.stand;
}

pub returns : goal.returns
returns g c = (
  (λ e. fits_all c.args.steps.now c.args.actor c.loop-receipt.low c.loop-receipt.receipt-index c.args.receipts.now (search rules) c.loop-receipt.invariant.ascend c.loop-receipt.invariant.stand),
  (λ fits. search rules),
)
