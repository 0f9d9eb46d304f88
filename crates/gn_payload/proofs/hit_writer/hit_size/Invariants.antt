use Rattle.std.proofs.Common.{◌≡◌, ◌+◌, length, map, take}
use Rattle.gn_payload.specs.Encoding.{results_bytes}
use Rattle.gn_payload.specs.Views.{result_fields}
use Rattle.gn_payload.proofs.hit_writer.hit_size.Given as goal

abbrev pub invariant-loop-entry : goal.invariant-loop-entry
invariant-loop-entry l = l.left + length (results_bytes (map result_fields (take l.entry-index l.results))) ≡ 65509
