use Rattle.std.proofs.Common.{◌+◌, map, refl, vec_items}
use Rattle.gn_receipts.specs.Made.{receipt_list}
use Rattle.gn_receipts.proofs.MadeLemmas.{list_more, list_pushed}
use Rattle.gn_receipts.proofs.made.empty_lists.Goals as goal

pub loop-preserved : goal.loop-preserved
loop-preserved g c =
    list_more c.loop.counter (c.loop.counter + 1) (map receipt_list (vec_items c.loop.all)) (map receipt_list (vec_items c.push.new.self)) refl c.loop.invariant
    (list_pushed (vec_items c.loop.all) (vec_items c.push.new.self) c.new.result c.in_ok-push.ensures.items c.new.ensures.items)
