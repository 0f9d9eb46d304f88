use Rattle.gn_runs.proofs.threads.slots.waits_plain.Given as goal

abbrev pub ghosts-waits-L-Ledger : goal.ghosts-waits-L-Ledger
ghosts-waits-L-Ledger g a = record { name = a.unopened.blank.name; parts = a.unopened.blank.parts }

abbrev pub ghosts-waits-L-Named : goal.ghosts-waits-L-Named
ghosts-waits-L-Named g a = record { growing = a.unopened.steps.name }
