use Rattle.std.proofs.Common.{◌≡◌, ◌==◌, ◌++◌, length, map, take}
use Rattle.std.specs.List.{slice_split}
use Rattle.gn_text.proofs.PartLemmas.{left, parts_after, referred}
use Rattle.gn_text.proofs.line.add_parts.Given as goal

abbrev pub invariant-loop-rest : goal.invariant-loop-rest
invariant-loop-rest g l = record {
  split : map (λ x. x.now) l.parts.items ++ parts_after l.mark (referred l.rest)
      ≡ map (λ x. x.now) l.fn.parts.items ++ slice_split (λ b. b == l.mark) l.fn.text;
  kept : take (length l.fn.parts.items) l.parts.items ≡ l.fn.parts.items;
}

abbrev pub decreases-loop-rest : goal.decreases-loop-rest
decreases-loop-rest g l = left l.rest
