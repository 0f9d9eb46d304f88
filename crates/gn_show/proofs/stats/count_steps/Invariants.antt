use Rattle.std.proofs.Common.{◌-◌, ◌^◌}
use Rattle.gn_stream.specs.Reading.{Passes, place}
use Rattle.gn_show.proofs.CountLemmas.{Counts}
use Rattle.gn_show.proofs.stats.count_steps.Given as goal

abbrev pub invariant-loop-step : goal.invariant-loop-step
invariant-loop-step g l = Passes (Counts l.stats l.index) (place (g.S.Source.state l.fn.source) l.fn.lines) (place (g.S.Source.state l.source) l.lines)

abbrev pub decreases-loop-step : goal.decreases-loop-step
decreases-loop-step g l = 2 ^ 64 - l.lines.next
