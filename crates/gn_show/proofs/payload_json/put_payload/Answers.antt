use Rattle.std.proofs.Common.{Option, subst}
use Rattle.gn_payload.specs.Reading.{Read}
use Rattle.gn_show.specs.Pieces.{Puts}
use Rattle.gn_show.specs.Tokens.{tokens_of}
use Rattle.gn_show.specs.Values.{payload_data}
use Rattle.gn_show.proofs.payload_json.put_payload.Goals as goal

pub returns-in-Some : goal.returns-in-Some
returns-in-Some c =
    subst (λ (read : Option Read). Puts c.args.tokens.now c.put_read.new.tokens (tokens_of (payload_data c.args.payload.now read))) c.in-Some.ensures c.put_read.ensures

pub returns-in-None : goal.returns-in-None
returns-in-None c =
    subst (λ (read : Option Read). Puts c.args.tokens.now c.put_unread.new.tokens (tokens_of (payload_data c.args.payload.now read))) c.in-None.ensures c.put_unread.ensures
