use Rattle.memchr.specs.Find.{Nowhere, Passes, is_byte}
use Rattle.gn_text.proofs.line.mark_in.Given as goal

abbrev pub invariant-loop-i : goal.invariant-loop-i
invariant-loop-i l = Nowhere (Passes (is_byte l.mark) l.text) 0 l.i
