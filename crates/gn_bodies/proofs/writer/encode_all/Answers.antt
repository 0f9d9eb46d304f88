use Rattle.gn_bodies.proofs.TextLemmas.{text_on}
use Rattle.gn_bodies.proofs.writer.encode_all.Goals as goal

pub loop-receipt-preserved : goal.loop-receipt-preserved
loop-receipt-preserved g c =
    text_on c.args.receipts.now c.loop-receipt.receipt-index c.receipt-item.result c.loop-receipt.text.items c.encode_receipt.new.text.items c.loop-receipt-test.true c.receipt-item.is c.loop-receipt.invariant c.in_ok-encode_receipt.ensures
