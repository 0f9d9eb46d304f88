use Rattle.std.proofs.Common.{◌-◌, ◌^◌}
use Rattle.gn_stream.specs.Reading.{Passes, place}
use Rattle.gn_replay.proofs.StreamLemmas.{IsRead}
use Rattle.gn_replay.proofs.judge.pass_left.Given as goal

abbrev pub invariant-loop-step : goal.invariant-loop-step
invariant-loop-step g l = Passes (IsRead g.row.A.Denot) (place (g.S.Source.state l.fn.source) l.fn.lines) (place (g.S.Source.state l.source) l.lines)

abbrev pub decreases-loop-step : goal.decreases-loop-step
decreases-loop-step g l = 2 ^ 64 - l.lines.next
