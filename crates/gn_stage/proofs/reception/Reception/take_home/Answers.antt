use Rattle.gn_stage.proofs.Steps.{joins_intake}
use Rattle.gn_stage.proofs.reception.Reception.take_home.Goals as goal

pub absorb-requires-clause-rule : goal.absorb-requires-clause-rule
absorb-requires-clause-rule g c = joins_intake _ _ _ _ c.self.invariant.4.role c.into_pass-pass.ensures.role
