use Rattle.std.proofs.Common.{◌≡◌}
use Rattle.std.specs.Io.KnownBytes.{Keeps}
use Rattle.gn_waits.proofs.reads.read_some.Given as goal

abbrev pub invariant-loop : goal.invariant-loop
invariant-loop g l = record {
  kept : Keeps (g.T.Read.remaining l.fn.stream) (g.T.Read.remaining l.stream);
  told : l.told ≡ l.fn.told;
}
