use Rattle.std.proofs.Common.{nat_lt}
use Rattle.gn_text.proofs.DigitLemmas.{Decodes}
use Rattle.gn_text.proofs.octets.put_bytes.Given as goal

abbrev pub invariant-loop-i : goal.invariant-loop-i
invariant-loop-i l = Decodes (nat_lt l.all 256) l.digits l.bytes l.i
