use Rattle.std.proofs.Common.{◌≡◌, length, take, vec_capacity, vec_len}
use Rattle.gn_rules.proofs.sends.Sends.copied.Given as goal

abbrev pub invariant-loop-sending : goal.invariant-loop-sending
invariant-loop-sending g l = record {
  items : l.items.items ≡ take l.sending-index l.sends;
  len : vec_len l.items ≡ l.sending-index;
  room : vec_capacity l.items ≡ length l.sends;
}
