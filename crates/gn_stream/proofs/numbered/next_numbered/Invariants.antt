use Rattle.std.proofs.Common.{◌-◌, ◌^◌}
use Rattle.gn_stream.specs.Reading.{Passes, place}
use Rattle.gn_stream.proofs.NumberedLemmas.{Skips}
use Rattle.gn_stream.proofs.numbered.next_numbered.Given as goal

abbrev pub invariant-loop-number : goal.invariant-loop-number
invariant-loop-number g l = Passes Skips (place (g.S.Source.state l.fn.source) l.fn.lines) (place (g.S.Source.state l.source) l.lines)

abbrev pub decreases-loop-number : goal.decreases-loop-number
decreases-loop-number g l = 2 ^ 64 - l.lines.next
