use Rattle.gn_runs.proofs.threads.slots.takes_turns_plain.Given as goal

abbrev pub ghosts-takes_turns-L-Ledger : goal.ghosts-takes_turns-L-Ledger
ghosts-takes_turns-L-Ledger g a = record { name = a.unopened.blank.name; parts = a.unopened.blank.parts }

abbrev pub ghosts-takes_turns-L-Named : goal.ghosts-takes_turns-L-Named
ghosts-takes_turns-L-Named g a = record { growing = a.unopened.steps.name }
