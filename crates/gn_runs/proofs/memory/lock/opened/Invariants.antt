use Rattle.gn_runs.proofs.memory.lock.opened.Given as goal

abbrev pub ghosts-actors_of-L-Ledger : goal.ghosts-actors_of-L-Ledger
ghosts-actors_of-L-Ledger g a = record { name = a.unopened.blank.name; parts = a.unopened.blank.parts }

abbrev pub ghosts-actors_of-L-Named : goal.ghosts-actors_of-L-Named
ghosts-actors_of-L-Named g a = record { growing = a.unopened.steps.name }
