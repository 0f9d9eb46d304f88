use Rattle.gn_program.proofs.PageLemmas.{behind}
use Rattle.gn_program.proofs.request.texts_command.Goals as goal

pub returns : goal.returns
returns c =
    behind _ _ _ _ c.in_ok-shows.ensures (behind _ _ _ _ c.in_ok-audits.ensures (behind _ _ _ _ c.in_ok-replays.ensures c.bare_command.ensures))
