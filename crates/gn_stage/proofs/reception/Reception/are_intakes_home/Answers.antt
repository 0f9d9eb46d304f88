use Rattle.std.proofs.Common.{◌↔◌, ◌<◌, ◌^◌, subst, nat_eq, rules}
use Rattle.std.specs.Prelude.{IsTrue}
use Rattle.gn_stage.specs.Ends.{AreAllHome}
use Rattle.gn_stage.specs.Reception.{ReceptionState}
use Rattle.gn_stage.proofs.Settling.{home_by_count}
use Rattle.gn_stage.proofs.Steps.{numbers}
use Rattle.gn_stage.proofs.reception.Reception.are_intakes_home.Goals as goal

pub learn_as-requires-clause-rule : goal.learn_as-requires-clause-rule
learn_as-requires-clause-rule g c = numbers _ _ c.self.invariant.4.role

pub returns-clause-home : goal.returns-clause-home
returns-clause-home g c =
    let low : c.self.inside.intakes < 2 ^ 32 = search rules in
    subst (λ (s : ReceptionState _). IsTrue (nat_eq c.self.inside.home c.from.result) ↔ AreAllHome s.made.intakes s.came) c.self.view_is
    (home_by_count _ _ _ _ _ _ _ c.self.invariant.4 c.learn_as.ensures.rule.1 c.self.invariant.5 c.from.ensures low)
