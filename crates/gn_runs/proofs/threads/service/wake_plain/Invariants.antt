use Rattle.gn_runs.proofs.threads.service.wake_plain.Given as goal

abbrev pub ghosts-wake-L-Ledger : goal.ghosts-wake-L-Ledger
ghosts-wake-L-Ledger g a = record { name = a.unopened.blank.name; parts = a.unopened.blank.parts }

abbrev pub ghosts-wake-L-Named : goal.ghosts-wake-L-Named
ghosts-wake-L-Named g a = record { growing = a.unopened.steps.name }
