use Rattle.std.specs.Prelude.{take}
use Rattle.gn_show.specs.Pieces.{Puts}
use Rattle.gn_show.specs.Plain.{sends_words}
use Rattle.gn_show.proofs.plain.push_sends.Given as goal

abbrev pub invariant-loop-sending : goal.invariant-loop-sending
invariant-loop-sending l = Puts l.fn.out l.out (sends_words (take l.sending-index l.sends))
