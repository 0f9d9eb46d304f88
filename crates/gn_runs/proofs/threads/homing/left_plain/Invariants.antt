use Rattle.gn_runs.proofs.threads.homing.left_plain.Given as goal

abbrev pub ghosts-left_by-L-Ledger : goal.ghosts-left_by-L-Ledger
ghosts-left_by-L-Ledger g a = record { name = a.unopened.blank.name; parts = a.unopened.blank.parts }

abbrev pub ghosts-left_by-L-Named : goal.ghosts-left_by-L-Named
ghosts-left_by-L-Named g a = record { growing = a.unopened.steps.name }
