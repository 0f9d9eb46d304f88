use Rattle.std.proofs.Common.{length, reverse}
use Rattle.gn_io.specs.Streams.{NoWriteFailed}
use Rattle.gn_replay.proofs.RunLemmas.{IsRunning}
use Rattle.gn_replay.proofs.playing.Play.pass_lines.Given as goal

abbrev pub invariant-loop-numbered : goal.invariant-loop-numbered
invariant-loop-numbered g l = record {
  running :
      IsRunning l.fn.self.form l.fn.block l.fn.self.settings l.self (g.W.Sink.state l.fn.sink).written (g.W.Sink.state l.sink).written l.block
      (reverse l.lines.items) l.fn.lines.items;
  unfailed : NoWriteFailed (g.W.Sink.state l.fn.sink) (g.W.Sink.state l.sink);
}

abbrev pub decreases-loop-numbered : goal.decreases-loop-numbered
decreases-loop-numbered g l = length l.lines.items
