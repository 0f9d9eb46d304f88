use Rattle.gn_runs.proofs.threads.service.at_once_plain.Given as goal

abbrev pub ghosts-at_once-L-Ledger : goal.ghosts-at_once-L-Ledger
ghosts-at_once-L-Ledger g a = record { name = a.unopened.blank.name; parts = a.unopened.blank.parts }

abbrev pub ghosts-at_once-L-Named : goal.ghosts-at_once-L-Named
ghosts-at_once-L-Named g a = record { growing = a.unopened.steps.name }
