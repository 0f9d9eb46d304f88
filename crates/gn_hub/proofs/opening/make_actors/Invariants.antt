use Rattle.std.proofs.Common.{◌≡◌, ◌+◌, [], vec_items}
use Rattle.gn_hub.specs.ActorState.{AreNew}
use Rattle.gn_hub.proofs.opening.make_actors.Given as goal

abbrev pub invariant-loop-number : goal.invariant-loop-number
invariant-loop-number g l = record {
  parts : l.all.parts + l.number ≡ l.count;
  amount : l.all.amount ≡ 0;
  seen : l.seen.items ≡ [];
  new : AreNew l.number (vec_items l.actors);
}
