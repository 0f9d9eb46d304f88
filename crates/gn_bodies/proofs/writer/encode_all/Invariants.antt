use Rattle.std.proofs.Common.{◌≡◌, ◌++◌, drop}
use Rattle.gn_laws.specs.Owners.{packets_of}
use Rattle.gn_bodies.specs.Writing.{text_of}
use Rattle.gn_bodies.proofs.writer.encode_all.Given as goal

abbrev pub invariant-loop-receipt : goal.invariant-loop-receipt
invariant-loop-receipt g l =
    text_of (packets_of l.receipts) ≡ l.text.items ++ text_of (packets_of (drop l.receipt-index l.receipts))
