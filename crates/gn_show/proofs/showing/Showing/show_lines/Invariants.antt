use Rattle.std.proofs.Common.{◌-◌, ◌^◌}
use Rattle.gn_io.specs.Streams.{NoWriteFailed}
use Rattle.gn_stream.specs.Reading.{Passes, place}
use Rattle.gn_show.specs.Showing.{IsShowing}
use Rattle.gn_show.proofs.showing.Showing.show_lines.Given as goal

abbrev pub invariant-loop-entry : goal.invariant-loop-entry
invariant-loop-entry g l = record {
  showing : Passes (IsShowing l.form (g.W.Sink.state l.fn.sink).written (g.W.Sink.state l.sink).written l.self)
      (place (g.S.Source.state l.fn.source) l.fn.lines) (place (g.S.Source.state l.source) l.lines);
  writes : NoWriteFailed (g.W.Sink.state l.fn.sink) (g.W.Sink.state l.sink);
}

abbrev pub decreases-loop-entry : goal.decreases-loop-entry
decreases-loop-entry g l = 2 ^ 64 - l.lines.next
