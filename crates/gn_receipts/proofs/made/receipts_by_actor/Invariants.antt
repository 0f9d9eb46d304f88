use Rattle.std.proofs.Common.{◌≡◌, take, map, vec_items}
use Rattle.gn_receipts.specs.Made.{AreMade, receipt_list}
use Rattle.gn_receipts.proofs.made.receipts_by_actor.Given as goal

abbrev pub invariant-loop-step : goal.invariant-loop-step
invariant-loop-step g l = (l.index ≡ l.step-index) × AreMade l.actors (take l.step-index l.steps) (map receipt_list (vec_items l.all))
