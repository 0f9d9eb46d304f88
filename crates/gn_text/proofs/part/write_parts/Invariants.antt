use Rattle.std.proofs.Common.{◌≡◌, ◌++◌, take}
use Rattle.gn_text.specs.Parts.{parts_text}
use Rattle.gn_text.proofs.part.write_parts.Given as goal

abbrev pub invariant-loop-part : goal.invariant-loop-part
invariant-loop-part g l = l.out.items ≡ l.fn.out.items ++ parts_text (take l.part-index l.parts)
