use Rattle.gn_scribe.specs.Written.{HasWritten}
use Rattle.gn_scribe.proofs.scribe.Scribe.write_on.Given as goal

abbrev pub invariant-loop : goal.invariant-loop
invariant-loop g l = HasWritten l.fn.self l.self (g.W.Sink.state l.fn.sink) (g.W.Sink.state l.sink)
