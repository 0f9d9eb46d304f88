use Rattle.gn_stage.proofs.Steps.{begins}
use Rattle.gn_stage.proofs.stage.Stage.new.Goals as goal

pub bounded_with-requires-clause-rule : goal.bounded_with-requires-clause-rule
bounded_with-requires-clause-rule g c = begins
