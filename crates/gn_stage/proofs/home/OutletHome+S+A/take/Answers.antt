use Rattle.gn_stage.proofs.Steps.{takes, runs}
use Rattle.gn_stage.proofs.home.«OutletHome+S+A».take.Goals as goal

pub try_recv_as-requires-clause-rule : goal.try_recv_as-requires-clause-rule
try_recv_as-requires-clause-rule g c = (takes _ _ c.self.invariant.1, runs _ _ c.self.invariant.1)
