use Rattle.gn_runs.proofs.threads.service.hundred_plain.Given as goal

abbrev pub ghosts-hundred-L-Ledger : goal.ghosts-hundred-L-Ledger
ghosts-hundred-L-Ledger g a = record { name = a.unopened.blank.name; parts = a.unopened.blank.parts }

abbrev pub ghosts-hundred-L-Named : goal.ghosts-hundred-L-Named
ghosts-hundred-L-Named g a = record { growing = a.unopened.steps.name }
