use Rattle.std.proofs.Common.{reverse, sym, ◌∙◌}
use Rattle.gn_witness.proofs.PacketLemmas.{sent_again}
use Rattle.gn_witness.proofs.packets.sent_again.Goals as goal

pub returns : goal.returns
returns g c = λ next.
    sent_again c.not_sent_again.ensures c.args.config.now (reverse c.args.past.now) c.args.step.now c.args.key.now (sym c.is_kept.ensures ∙ c.if-not-is_kept.false)
    (c.was_sent.ensures c.if-not-was_sent.false) (c.sends_key.ensures c.if-not-sends_key.false) (c.is_next.ensures next)
