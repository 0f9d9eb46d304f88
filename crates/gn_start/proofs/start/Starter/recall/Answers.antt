use Rattle.std.proofs.Common.{◌∙◌, refl}
use Rattle.gn_start.proofs.LoopLemmas.{same_on, same_still}
use Rattle.gn_start.proofs.RouteLemmas.{none_recalled, recalled_then}
use Rattle.gn_start.proofs.start.Starter.recall.Goals as goal

pub loop-init : goal.loop-init
loop-init g c = record {
  coming = same_still g.V.Incoming.may_come g.V.Incoming.may_end c.args.incoming.now c.args.incoming.now refl;
  same = (refl, refl);
  house = none_recalled (g.V.Incoming.recalls c.args.incoming.now) c.args.house.now c.args.house.now refl;
  goes = (tt, tt);
}

pub loop-preserved : goal.loop-preserved
loop-preserved g c =
    let next = c.recall_next.new in
    record {
      coming = same_on g.V.Incoming.may_come g.V.Incoming.may_end c.args.incoming.now c.loop.incoming next.incoming c.loop.invariant.coming c.recall_next.ensures.coming;
      same = (c.recall_next.ensures.same.0 ∙ c.loop.invariant.same.0, c.recall_next.ensures.same.1 ∙ c.loop.invariant.same.1);
      house = recalled_then (g.V.Incoming.recalls c.args.incoming.now) (g.V.Incoming.recalls c.loop.incoming) c.args.house.now c.loop.house next.house c.loop.invariant.house c.loop.invariant.same.1
          c.recall_next.ensures.house;
      goes = (tt, tt);
    }
