use Rattle.std.proofs.Common.{◌≡◌, vec_items}
use Rattle.std.specs.Vec.Iter.{into_iter_items}
use Rattle.gn_stage.specs.Opened.{IsPassOf, knows}
use Rattle.gn_stage.specs.Rule.{of_desk, with_outlets_home}
use Rattle.gn_stage.proofs.settle.gather_outlets.Given as goal

abbrev pub invariant-loop-home : goal.invariant-loop-home
invariant-loop-home g l = record {
  here : IsPassOf g.S.Site.stage l.pass;
  role : (knows l.pass).role ≡ of_desk;
  known : with_outlets_home (knows l.pass) (into_iter_items l.home-iterator) ≡ with_outlets_home (knows l.initial.pass) (vec_items l.fn.homes);
}
