use Rattle.std.proofs.Common.{◌<◌, ◌++◌, length, take}
use Rattle.gn_io.specs.Parts.{LeavesToWrite, block_size}
use Rattle.gn_io.specs.Streams.{NoWriteFailed}
use Rattle.gn_capture.specs.Histories.{steps_text}
use Rattle.gn_scribe.proofs.printed.print_steps.Given as goal

abbrev pub invariant-loop-step : goal.invariant-loop-step
invariant-loop-step g l = record {
  left : LeavesToWrite (g.W.Sink.state l.fn.sink).written (g.W.Sink.state l.sink).written l.block (l.fn.block ++ steps_text (take l.step-index l.steps));
  small : length l.fn.block < block_size → length l.block < block_size;
  unfailed : NoWriteFailed (g.W.Sink.state l.fn.sink) (g.W.Sink.state l.sink);
}
