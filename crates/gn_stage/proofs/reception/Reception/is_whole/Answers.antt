use Rattle.std.proofs.Common.{ap}
use Rattle.gn_stage.specs.Reception.{ReceptionState}
use Rattle.gn_stage.proofs.Settling.{whole_by}
use Rattle.gn_stage.proofs.reception.Reception.is_whole.Goals as goal

pub returns-then-are_intakes_home-clause-whole : goal.returns-then-are_intakes_home-clause-whole
returns-then-are_intakes_home-clause-whole g c =
    let outlets = ap (λ (s : ReceptionState _). s.made.outlets) c.self.view_is in
    whole_by _ _ _ _ _ outlets (c.are_intakes_home.ensures.home.0 c.if-are_intakes_home.true) c.are_all_home.ensures
