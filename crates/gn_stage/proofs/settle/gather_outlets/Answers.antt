use Rattle.gn_stage.proofs.Steps.{joins_outlet}
use Rattle.gn_stage.proofs.settle.gather_outlets.Goals as goal

pub absorb-requires-clause-rule : goal.absorb-requires-clause-rule
absorb-requires-clause-rule g c = joins_outlet _ _ _ _ c.loop-home.invariant.role c.into_pass.ensures.role
