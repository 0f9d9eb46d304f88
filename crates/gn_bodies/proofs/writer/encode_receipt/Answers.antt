use Rattle.std.proofs.Common.{◌∙◌, ap, sym}
use Rattle.std.specs.Option.{option_copied}
use Rattle.gn_bodies.proofs.TextLemmas.{text_more, text_same}
use Rattle.gn_bodies.proofs.writer.encode_receipt.Goals as goal

pub returns-in-Some : goal.returns-in-Some
returns-in-Some g c =
    text_more c.args.receipt.now c.in-Some.packet.now c.args.text.now.items c.encode.new.text.items c.encode.result (sym c.taken_in.ensures ∙ ap option_copied c.in-Some.is) c.encode.ensures

pub returns-in-None : goal.returns-in-None
returns-in-None g c = text_same c.args.receipt.now c.args.text.now.items (sym c.taken_in.ensures ∙ ap option_copied c.in-None.is)
