use Rattle.std.proofs.Common.{◌≡◌, drop, slice_get}
use Rattle.gn_rules.specs.Output.{queued_to}
use Rattle.gn_search.proofs.output.queued_after.Given as goal

abbrev pub invariant-loop-sending : goal.invariant-loop-sending
invariant-loop-sending g l =
    slice_get (queued_to l.c l.sends) l.others ≡ slice_get (queued_to l.c (drop l.sending-index l.sends)) l.skip
