use Rattle.std.proofs.Common.{◌<◌, List, sym, subst, ◌∙◌}
use Rattle.gn_wire.specs.Keys.{is_same_key, key_of}
use Rattle.gn_rules.specs.declared.sends.Sending.{Sending}
use Rattle.gn_paths.specs.Sends.{sends_of_key}
use Rattle.gn_witness.proofs.PacketLemmas.{counted}
use Rattle.gn_witness.proofs.packets.sends_key.Goals as goal

pub returns-then-has_key : goal.returns-then-has_key
returns-then-has_key g c = λ _.
    subst (λ (xs : List (Sending g.row.A.Denot)). 0 < sends_of_key c.args.key.now xs) c.sends-sending-items.ensures
    (counted (λ x. is_same_key c.args.key.now (key_of x.packet)) c.sends-sending-items.result.now c.loop-sending.sending-index c.sending-item.result c.loop-sending-test.true
    c.sending-item.is (sym c.has_key.ensures ∙ c.if-has_key.true))
