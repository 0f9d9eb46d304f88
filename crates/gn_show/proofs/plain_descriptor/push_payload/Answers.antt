use Rattle.std.proofs.Common.{Option, subst}
use Rattle.gn_payload.specs.Reading.{Read}
use Rattle.gn_show.specs.Pieces.{Puts}
use Rattle.gn_show.specs.Plain.{payload_words}
use Rattle.gn_show.proofs.plain_descriptor.push_payload.Goals as goal

pub returns-in-Some : goal.returns-in-Some
returns-in-Some c =
    subst (λ (read : Option Read). Puts c.args.out.now c.push_read.new.out (payload_words c.args.payload.now read)) c.in-Some.ensures c.push_read.ensures

pub returns-in-None : goal.returns-in-None
returns-in-None c =
    subst (λ (read : Option Read). Puts c.args.out.now c.push_unread.new.out (payload_words c.args.payload.now read)) c.in-None.ensures c.push_unread.ensures
