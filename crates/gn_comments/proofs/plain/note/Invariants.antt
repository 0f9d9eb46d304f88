use Rattle.std.proofs.Common.{◌≡◌, ◌++◌, take}
use Rattle.gn_comments.proofs.plain.note.Given as goal

abbrev pub invariant-loop-byte : goal.invariant-loop-byte
invariant-loop-byte l = l.text.items ≡ l.fn.text.items ++ take l.byte-index l.more
