use Rattle.gn_scribe.proofs.WrittenLemmas.{IsWriting}
use Rattle.gn_scribe.proofs.scribe.Scribe.write_known.Given as goal

abbrev pub invariant-loop-place : goal.invariant-loop-place
invariant-loop-place g l = IsWriting l.fn.self l.self (g.W.Sink.state l.fn.sink) (g.W.Sink.state l.sink) l.place
