use Rattle.gn_program.proofs.PageLemmas.{behind}
use Rattle.gn_program.proofs.request.gn_command.Goals as goal

pub returns : goal.returns
returns c = behind _ _ _ _ c.in_ok-serves.ensures (behind _ _ _ _ c.in_ok-loads.ensures c.in_ok-texts.ensures)
