use Rattle.std.proofs.Common.{inl, map}
use Rattle.gn_program.proofs.CommandLemmas.{unread}
use Rattle.gn_program.proofs.commands.command_with.Goals as goal

pub returns-in-Err-clause-asked : goal.returns-in-Err-clause-asked
returns-in-Err-clause-asked g c request asked =
    inl (unread (map g.T.AsStr.text c.args.words.now) request c.in-Err.error _ _ _ _ asked c.in-Err.ensures.err c.turn_away-status.ensures)
