use Rattle.std.proofs.Common.{◌-◌, ◌^◌}
use Rattle.gn_stream.specs.Reading.{Passes, place}
use Rattle.gn_replay.proofs.StreamLemmas.{Repeats}
use Rattle.gn_replay.proofs.judge.judge.Given as goal

abbrev pub invariant-loop-number : goal.invariant-loop-number
invariant-loop-number g l =
    Passes (Repeats (g.C.RouterCore.settings l.fn.core) (g.C.RouterCore.settings l.core) (g.C.RouterCore.steps l.core) l.index)
    (place (g.S.Source.state l.fn.source) l.fn.lines) (place (g.S.Source.state l.source) l.lines)

abbrev pub decreases-loop-number : goal.decreases-loop-number
decreases-loop-number g l = 2 ^ 64 - l.lines.next
