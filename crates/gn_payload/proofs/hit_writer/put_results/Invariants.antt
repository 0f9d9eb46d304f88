use Rattle.std.proofs.Common.{◌≡◌, ◌≤◌, ◌+◌, ◌++◌, length, map, take, vec_len, vec_capacity}
use Rattle.std.specs.List.{AllByRecursion}
use Rattle.gn_payload.specs.Encoding.{HasNumbers, results_bytes}
use Rattle.gn_payload.specs.Views.{result_fields}
use Rattle.gn_payload.proofs.hit_writer.put_results.Given as goal

abbrev pub invariant-loop-entry : goal.invariant-loop-entry
invariant-loop-entry g l = record {
  items : l.out.items ≡ l.fn.out.items ++ results_bytes (map result_fields (take l.entry-index l.results));
  len : vec_len l.out ≡ vec_len l.fn.out + length (results_bytes (map result_fields (take l.entry-index l.results)));
  capacity : vec_capacity l.fn.out ≤ vec_capacity l.out;
  numbers : AllByRecursion HasNumbers (map result_fields (take l.entry-index l.results));
}
