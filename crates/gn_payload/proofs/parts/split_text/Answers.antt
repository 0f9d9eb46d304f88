use Rattle.std.proofs.Common.{◌∙◌, sym}
use Rattle.gn_payload.proofs.TextLemmas.{text_found}
use Rattle.gn_payload.proofs.parts.split_text.Goals as goal

pub returns : goal.returns
returns c = sym (text_found c.args.bytes.now c.in_ok-zero.zero (sym c.first_zero.ensures ∙ c.in_ok-zero.was))
