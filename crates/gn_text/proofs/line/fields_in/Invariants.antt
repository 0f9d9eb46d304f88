use Rattle.std.proofs.Common.{◌≡◌, ◌≤◌, ◌++◌, length, map, take}
use Rattle.gn_text.specs.Lines.{fields_of}
use Rattle.gn_text.proofs.PartLemmas.{left, parts_after, referred}
use Rattle.gn_text.proofs.line.fields_in.Given as goal

abbrev pub invariant-loop-rest : goal.invariant-loop-rest
invariant-loop-rest l = record {
  split : map (λ x. x.now) (take l.count l.places) ++ parts_after 32 (referred l.rest) ≡ fields_of l.fn.line;
  room : l.count ≤ length l.places;
}

abbrev pub decreases-loop-rest : goal.decreases-loop-rest
decreases-loop-rest l = left l.rest
