use Rattle.gn_runs.proofs.memory.lock.CallsTurns.turn.Given as goal

abbrev pub ghosts-turn_of-L-Ledger : goal.ghosts-turn_of-L-Ledger
ghosts-turn_of-L-Ledger g a = record { name = a.unopened.blank.name; parts = a.unopened.blank.parts }

abbrev pub ghosts-turn_of-L-Named : goal.ghosts-turn_of-L-Named
ghosts-turn_of-L-Named g a = record { growing = a.unopened.steps.name }
