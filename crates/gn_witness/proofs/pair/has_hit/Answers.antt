use Rattle.std.proofs.Common.{◌+◌, drop, reverse, take}
use Rattle.gn_witness.proofs.LinkLemmas.{stands_at}
use Rattle.gn_witness.proofs.pair.has_hit.Goals as goal

pub returns-then-is_hit : goal.returns-then-is_hit
returns-then-is_hit g c = λ _.
    let steps = c.args.steps.now in
    let i = c.loop-step.step-index in
    let hit = c.is_hit.ensures c.if-is_hit.true in
    record {
      later = reverse (drop (i + 1) steps);
      step = c.step-item.result;
      earlier = reverse (take i steps);
      stands = stands_at steps i c.step-item.result c.loop-step-test.true c.step-item.is;
      hit = hit.0;
      admitted = hit.1;
      is_hit = hit.2;
    }
