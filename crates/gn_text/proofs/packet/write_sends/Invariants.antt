use Rattle.std.proofs.Common.{◌≡◌, ◌≤◌, ◌++◌, length, take}
use Rattle.std.specs.Prelude.{IfSome, slice_range}
use Rattle.gn_text.specs.Steps.{packet_text, sends_text}
use Rattle.gn_text.proofs.packet.write_sends.Given as goal

abbrev pub invariant-loop-sending : goal.invariant-loop-sending
invariant-loop-sending g l = record {
  written : l.out.items ≡ l.fn.out.items ++ sends_text (take l.sending-index l.sends);
  ends : l.place.0 ≤ l.place.1;
  within : l.place.1 ≤ length l.out.items;
  before : IfSome l.before (λ b. slice_range l.out.items l.place.0 l.place.1 ≡ packet_text b.now);
}
