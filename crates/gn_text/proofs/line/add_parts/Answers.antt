use Rattle.std.proofs.Common.{◌∙◌}
use Rattle.gn_text.proofs.PartLemmas.{kept_more, part_added}
use Rattle.gn_text.proofs.line.add_parts.Goals as goal

pub loop-rest-preserved : goal.loop-rest-preserved
loop-rest-preserved g c = record {
  split =
      part_added c.loop-rest.parts.items c.push.new.self.items c.first_part.result.0 c.args.mark c.in-Some.text.now c.first_part.result.1
      c.first_part.ensures.unmarked c.first_part.ensures.cut c.first_part.ensures.last c.in_ok-push.ensures.items
      ∙ (rw c.in-Some.is at c.loop-rest.invariant.split);
  kept = kept_more c.args.parts.now.items c.loop-rest.parts.items c.push.new.self.items c.first_part.result.0 c.loop-rest.invariant.kept c.in_ok-push.ensures.items;
}
