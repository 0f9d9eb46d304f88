use Rattle.std.proofs.Common.{take}
use Rattle.std.specs.List.{AllByRecursion}
use Rattle.gn_capture.specs.RoundTrip.{IsSending}
use Rattle.gn_capture.proofs.fitting.sends_fit.Given as goal

abbrev pub invariant-loop-sending : goal.invariant-loop-sending
invariant-loop-sending g l = AllByRecursion IsSending (take l.sending-index l.sends)
