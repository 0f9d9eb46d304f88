use Rattle.std.proofs.Common.{◌-◌, length}
use Rattle.gn_stream.specs.Lines.{TakesOn}
use Rattle.gn_stream.specs.Reading.{place}
use Rattle.gn_stream.proofs.LineLemmas.{IsFree}
use Rattle.gn_stream.proofs.lines.LineReader.next_line.Given as goal

abbrev pub invariant-loop-self : goal.invariant-loop-self
invariant-loop-self g l = record {
  taken : TakesOn l.self.line (place (g.S.Source.state l.fn.source) l.fn.self) (place (g.S.Source.state l.source) l.self);
  free : IsFree l.self.line;
}

abbrev pub decreases-loop-self : goal.decreases-loop-self
decreases-loop-self g l = 67108865 - length l.self.line
