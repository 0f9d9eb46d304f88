use Rattle.std.proofs.Common.{◌∷◌, [], take_all}
use Rattle.json.specs.Token.{begin_array}
use Rattle.gn_show.specs.Tokens.{sending_tokens}
use Rattle.gn_show.proofs.PieceLemmas.{◌>>◌, one_more}
use Rattle.gn_show.proofs.TokenLemmas.{sends_written}
use Rattle.gn_show.proofs.descriptor_json.put_sends.Goals as goal

pub loop-sending-preserved : goal.loop-sending-preserved
loop-sending-preserved c =
    one_more sending_tokens (begin_array ∷ []) c.args.sends.now c.loop-sending.sending-index c.sending-item.result _ c.loop-sending-test.true c.sending-item.is
    c.loop-sending.invariant c.put_sending.ensures

pub returns : goal.returns
returns c =
    let whole = take_all c.loop-sending.sending-index c.args.sends.now c.loop-sending-test.false in
    rw (sends_written c.args.sends.now) (rw whole at (c.loop-sending.invariant >> c.end_array.ensures))
