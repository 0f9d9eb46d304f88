use Rattle.std.proofs.Common.{length, ◌≡◌, ◌++◌, ◌-◌, ◌≤◌}
use Rattle.std.specs.Io.KnownBytes.{Consumes}
use Rattle.gn_io.specs.Counts.{count_more}
use Rattle.gn_io.proofs.input.read_input.Given as goal

abbrev pub invariant-loop-room : goal.invariant-loop-room
invariant-loop-room g l = record {
  told : (g.S.Source.state l.source).told ≡ (g.S.Source.state l.fn.source).told ++ l.input.items;
  taken : Consumes (g.S.Source.state l.fn.source).rest (g.S.Source.state l.source).rest l.input.items;
  failures : (g.S.Source.state l.source).failures ≡ (g.S.Source.state l.fn.source).failures;
  given : count_more (length l.input.items) (g.S.Source.state l.fn.source).given ≤ (g.S.Source.state l.source).given;
}

abbrev pub decreases-loop-room : goal.decreases-loop-room
decreases-loop-room g l = 67108865 - length l.input.items
