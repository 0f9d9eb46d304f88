use Rattle.std.specs.Prelude.{◌++◌, ◌∷◌, [], take}
use Rattle.std.specs.List.{flat_map}
use Rattle.json.specs.Token.{begin_array}
use Rattle.gn_show.specs.Pieces.{Puts}
use Rattle.gn_show.specs.Tokens.{sending_tokens}
use Rattle.gn_show.proofs.descriptor_json.put_sends.Given as goal

abbrev pub invariant-loop-sending : goal.invariant-loop-sending
invariant-loop-sending l = Puts l.fn.tokens l.tokens (begin_array ∷ [] ++ flat_map sending_tokens (take l.sending-index l.sends))
