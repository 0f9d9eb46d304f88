use Rattle.std.proofs.Common.{◌≡◌, ◌≤◌, None, vec_items, replicate}
use Rattle.std.specs.Prelude.{vec_capacity}
use Rattle.gn_start.proofs.slots.Slots.new.Given as goal

abbrev pub invariant-loop : goal.invariant-loop
invariant-loop g l = record {
  items : vec_items l.all ≡ replicate l.counter None;
  room : vec_capacity l.all ≡ l.fn.slots;
  below : l.counter ≤ l.fn.slots;
}
