use Rattle.gn_stage.proofs.Steps.{makes_outlet}
use Rattle.gn_stage.proofs.reception.Reception.make_outlet.Goals as goal

pub another-pass-requires-clause-rule : goal.another-pass-requires-clause-rule
another-pass-requires-clause-rule g c = let desk = c.self.invariant.4 in makes_outlet _ _ _ desk.role desk.undrained
