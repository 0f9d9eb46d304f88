use Rattle.gn_runs.proofs.threads.hub.work_plain.Given as goal

abbrev pub ghosts-work-L-Ledger : goal.ghosts-work-L-Ledger
ghosts-work-L-Ledger g a = record { name = a.unopened.blank.name; parts = a.unopened.blank.parts }

abbrev pub ghosts-work-L-Named : goal.ghosts-work-L-Named
ghosts-work-L-Named g a = record { growing = a.unopened.steps.name }
