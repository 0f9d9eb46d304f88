use Rattle.std.proofs.Common.{◌≡◌}
use Rattle.std.specs.Io.KnownBytes.{Keeps}
use Rattle.gn_waits.proofs.writes.write_some.Given as goal

abbrev pub invariant-loop : goal.invariant-loop
invariant-loop g l = record {
  kept : Keeps (g.T.Write.contents l.fn.stream) (g.T.Write.contents l.stream);
  told : l.told ≡ l.fn.told;
}
