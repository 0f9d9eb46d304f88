use Rattle.std.proofs.Common.{◌≡◌, ◌≤◌, ◌+◌, ◌++◌, map, vec_items, vec_len}
use Rattle.std.specs.Prelude.{vec_capacity}
use Rattle.std.specs.Vec.Iter.{into_iter_items, into_iter_len}
use Rattle.gn_receipts.specs.Made.{receipt_list}
use Rattle.gn_report.specs.Told.{account_ends, ends_of}
use Rattle.gn_report.proofs.telling.link_reports.Given as goal

abbrev pub invariant-loop-link : goal.invariant-loop-link
invariant-loop-link g l = record {
  many : vec_len l.made + into_iter_len l.link-iterator ≡ vec_len l.fn.links;
  left : (into_iter_len l.reading ≡ into_iter_len l.link-iterator) × (into_iter_len l.writing ≡ into_iter_len l.link-iterator);
  room : vec_len l.fn.links ≤ vec_capacity l.made;
  ends : map ends_of (vec_items l.made) ++ map account_ends (into_iter_items l.link-iterator) ≡ map account_ends (vec_items l.fn.links);
  reading : map (λ link. link.reader_receipts.items) (vec_items l.made) ++ map receipt_list (into_iter_items l.reading) ≡ map receipt_list (vec_items l.fn.reading);
  writing : map (λ link. link.writer_receipts.items) (vec_items l.made) ++ map receipt_list (into_iter_items l.writing) ≡ map receipt_list (vec_items l.fn.writing);
}
