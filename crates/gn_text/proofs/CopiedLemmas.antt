-- A part of a text that is copied to its end.
use Rattle.std.proofs.Common.{◌≡◌, ℕ, ◌-◌, ◌≤◌, List, ◌++◌, length, take, drop, ap, ◌∙◌, arith, length-drop}
use Rattle.std.specs.Prelude.{slice_range}
use Rattle.std.proofs.lemmas.List.{drop-append-le, take-append-le}

-- a part stays where it is, whatever is appended
pub part_stays : (old more : List ℕ) (from to : ℕ) → from ≤ to → to ≤ length old → slice_range (old ++ more) from to ≡ slice_range old from to
part_stays old more from to ends within =
    let rest = length-drop from old in
    ap (take (to - from)) (drop-append-le from old more (omega arith)) ∙ take-append-le (to - from) (drop from old) more (omega arith)
