use Rattle.std.proofs.Common.{◌∙◌, ◌+◌, arith, set, take}
use Rattle.std.proofs.lemmas.List.{length-set, take_more_set}
use Rattle.gn_text.proofs.PartLemmas.{part_added}
use Rattle.gn_text.proofs.line.fields_in.Goals as goal

pub loop-rest-preserved : goal.loop-rest-preserved
loop-rest-preserved c =
    let places = c.loop-rest.places in
    let count = c.loop-rest.count in
    record {
      split =
          part_added (take count places) (take (count + 1) (set places count c.first_part.result.0)) c.first_part.result.0 32 c.in-Some.text.now c.first_part.result.1
          c.first_part.ensures.unmarked c.first_part.ensures.cut c.first_part.ensures.last
          (take_more_set places count c.first_part.result.0 (omega (arith, c.loop-rest.invariant.room, c.if-count-places.false)))
          ∙ (rw c.in-Some.is at c.loop-rest.invariant.split);
      room = omega (arith, c.loop-rest.invariant.room, c.if-count-places.false, length-set places count c.first_part.result.0);
    }
