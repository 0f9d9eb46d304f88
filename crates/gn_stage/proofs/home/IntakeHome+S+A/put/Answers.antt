use Rattle.std.proofs.Common.{◌∙◌, sym}
use Rattle.gn_stage.proofs.Steps.{puts}
use Rattle.gn_stage.proofs.home.«IntakeHome+S+A».put.Goals as goal

pub send_as-requires-clause-rule : goal.send_as-requires-clause-rule
send_as-requires-clause-rule g c =
    (puts _ _ _ _ c.self.invariant.1 (c.self.invariant.2 ∙ sym c.requires.3), λ items views h at. tt)
