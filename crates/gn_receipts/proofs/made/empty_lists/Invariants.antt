use Rattle.std.proofs.Common.{[], map, vec_items}
use Rattle.gn_receipts.specs.Made.{AreMade, receipt_list}
use Rattle.gn_receipts.proofs.made.empty_lists.Given as goal

abbrev pub invariant-loop : goal.invariant-loop
invariant-loop g l = AreMade l.counter [] (map receipt_list (vec_items l.all))
