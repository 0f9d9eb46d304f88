use Rattle.std.proofs.Common.{◌≡◌, ◌≤◌, take, length}
use Rattle.gn_rules.specs.Output.{queued_to}
use Rattle.gn_search.proofs.output.queued_count.Given as goal

abbrev pub invariant-loop-sending : goal.invariant-loop-sending
invariant-loop-sending g l =
    record {
      bound : l.count ≤ l.sending-index;
      value : l.count ≡ length (queued_to l.c (take l.sending-index l.sends));
    }
