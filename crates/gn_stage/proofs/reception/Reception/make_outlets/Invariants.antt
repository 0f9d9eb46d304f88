use Rattle.std.proofs.Common.{◌≡◌, vec_items}
use Rattle.gn_stage.specs.Ends.{AreNew}
use Rattle.gn_stage.proofs.reception.Reception.make_outlets.Given as goal

abbrev pub invariant-loop : goal.invariant-loop
invariant-loop g l = record {
  desk : l.self ≡ record l.initial.self { made = record l.initial.self.made { outlets = l.counter } };
  new : AreNew l.counter (vec_items l.outlets);
}
