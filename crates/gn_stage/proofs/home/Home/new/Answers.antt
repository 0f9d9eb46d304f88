use Rattle.gn_stage.proofs.Passes.{new_parts}
use Rattle.gn_stage.proofs.home.Home.new.Goals as goal

pub invariant_of-result : goal.invariant_of-result
invariant_of-result g c = let parts = new_parts _ _ _ _ c.requires.new in (c.requires.here, parts.0, parts.1, parts.2, parts.3)
