use Rattle.std.proofs.Common.{length, take, ◌-◌, ◌≤◌}
use Rattle.std.specs.Io.KnownBytes.{Appends}
use Rattle.gn_io.specs.Streams.{NoWriteFailed}
use Rattle.gn_comments.proofs.put.put.Given as goal

abbrev pub invariant-loop-count : goal.invariant-loop-count
invariant-loop-count g l = record {
  within : l.count ≤ length l.bytes;
  written : Appends (g.S.Sink.state l.fn.sink).written (g.S.Sink.state l.sink).written (take l.count l.bytes);
  unfailed : NoWriteFailed (g.S.Sink.state l.fn.sink) (g.S.Sink.state l.sink);
}

abbrev pub decreases-loop-count : goal.decreases-loop-count
decreases-loop-count g l = length l.bytes - l.count
