use Rattle.std.proofs.Common.{◌≡◌, true, length}
use Rattle.gn_start.specs.Table.{all_came}
use Rattle.gn_start.proofs.start.Starter.retire_ended.Given as goal

abbrev pub invariant-loop-slot : goal.invariant-loop-slot
invariant-loop-slot g l = record {
  live : length l.table.live ≡ length l.fn.table.live;
  came : all_came l.table.states ≡ all_came l.fn.table.states;
  same : (l.table.numbering ≡ l.fn.table.numbering) × (l.table.is_open ≡ l.fn.table.is_open);
  faulty : l.fn.table.is_faulty ≡ true → l.table.is_faulty ≡ true;
}
