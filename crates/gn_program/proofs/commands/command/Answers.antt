use Rattle.gn_program.proofs.CommandLemmas.{forgotten}
use Rattle.gn_program.proofs.commands.command.Goals as goal

pub returns-clause-asked : goal.returns-clause-asked
returns-clause-asked g c request asked =
    forgotten request _ _ c.command_with-ended.result.ran (c.command_with-ended.ensures.asked request asked)
