use Rattle.std.proofs.Common.{flat_map, sym, ap, ◌∙◌, map-id, List, ℕ, subst}
use Rattle.std.proofs.lemmas.Iterator.{YieldsList-from_chars}
use Rattle.std.proofs.lemmas.Iterator.Consumers.{YieldsList-end}
use Rattle.gn_show.specs.Pieces.{Puts}
use Rattle.gn_show.specs.Plain.{char_words}
use Rattle.gn_show.proofs.plain_descriptor.push_inert.Goals as goal

pub returns : goal.returns
returns c =
    let end = YieldsList-end (YieldsList-from_chars c.args.text.now c.utf8.text cc) c.loop-c.yielded _ c.loop-c.yielded_by _ _ c.in-None.is c.next.ensures.steps in
    subst (λ (words : List ℕ). Puts c.args.out.now c.loop-c.out words) (ap (flat_map char_words) (sym (map-id c.loop-c.yielded) ∙ end.0)) c.loop-c.invariant
