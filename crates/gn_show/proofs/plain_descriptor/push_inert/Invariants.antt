use Rattle.std.specs.List.{flat_map}
use Rattle.gn_show.specs.Pieces.{Puts}
use Rattle.gn_show.specs.Plain.{char_words}
use Rattle.gn_show.proofs.plain_descriptor.push_inert.Given as goal

abbrev pub invariant-loop-c : goal.invariant-loop-c
invariant-loop-c l = Puts l.fn.out l.out (flat_map char_words l.yielded)
