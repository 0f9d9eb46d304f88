use Rattle.std.proofs.Common.{length, take, ◌-◌, ◌≤◌}
use Rattle.std.specs.Io.KnownBytes.{Appends}
use Rattle.gn_io.specs.Streams.{NoWriteFailed}
use Rattle.gn_io.proofs.write.write_all.Given as goal

abbrev pub invariant-loop-done : goal.invariant-loop-done
invariant-loop-done g l = record {
  within : l.done ≤ length l.bytes;
  written : Appends (g.S.Sink.state l.fn.sink).written (g.S.Sink.state l.sink).written (take l.done l.bytes);
  unfailed : NoWriteFailed (g.S.Sink.state l.fn.sink) (g.S.Sink.state l.sink);
}

abbrev pub decreases-loop-done : goal.decreases-loop-done
decreases-loop-done g l = length l.bytes - l.done
