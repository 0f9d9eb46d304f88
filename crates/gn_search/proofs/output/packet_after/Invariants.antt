use Rattle.std.proofs.Common.{◌≡◌, drop, slice_get}
use Rattle.gn_search.proofs.OutputLemmas.{queued_in}
use Rattle.gn_search.proofs.output.packet_after.Given as goal

abbrev pub invariant-loop-step : goal.invariant-loop-step
invariant-loop-step g l =
    slice_get (queued_in l.c l.history) l.others ≡ slice_get (queued_in l.c (drop l.step-index l.history)) l.skip
