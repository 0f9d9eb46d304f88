use Rattle.std.proofs.Common.{rules, vec_items}
use Rattle.gn_hub.proofs.ActorLemmas.{one_more}
use Rattle.gn_hub.proofs.opening.make_actors.Goals as goal

pub loop-number-preserved : goal.loop-number-preserved
loop-number-preserved g c =
    record {
      parts = search rules;
      amount = search rules;
      seen = search rules;
      new = one_more (vec_items c.loop-number.actors) (vec_items c.push.new.self) c.new.result c.loop-number.number _ (search rules) c.loop-number.invariant.new (search rules) (search rules);
    }

pub returns : goal.returns
returns g c =
    let few = c.requires in
    one_more (vec_items c.loop-number.actors) (vec_items c.push-2.new.self) c.new-2.result c.loop-number.number c.args.count (search rules) c.loop-number.invariant.new (search rules) (search rules)
