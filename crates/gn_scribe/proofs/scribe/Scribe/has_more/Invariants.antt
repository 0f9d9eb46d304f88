use Rattle.gn_io.specs.Streams.{SinkState}
use Rattle.gn_scribe.specs.Written.{HasWritten}
use Rattle.gn_scribe.proofs.scribe.Scribe.has_more.Given as goal

abbrev pub invariant-loop : goal.invariant-loop
invariant-loop g l = (k : SinkState) → HasWritten l.fn.self l.self k k
