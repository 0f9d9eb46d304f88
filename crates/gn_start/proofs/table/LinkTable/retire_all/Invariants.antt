use Rattle.std.proofs.Common.{◌≡◌, ◌<◌, ℕ, None, true, length, slice_index_or}
use Rattle.gn_start.specs.Table.{all_came}
use Rattle.gn_start.proofs.table.LinkTable.retire_all.Given as goal

abbrev pub invariant-loop-slot : goal.invariant-loop-slot
invariant-loop-slot g l = record {
  came : all_came l.self.states ≡ all_came l.fn.self.states;
  same : (l.self.numbering ≡ l.fn.self.numbering) × (l.self.is_open ≡ l.fn.self.is_open);
  faulty : l.fn.self.is_faulty ≡ true → l.self.is_faulty ≡ true;
  many : length l.self.live ≡ length l.fn.self.live;
  free : (i : ℕ) → i < l.slot → slice_index_or l.self.live i None ≡ None;
}
