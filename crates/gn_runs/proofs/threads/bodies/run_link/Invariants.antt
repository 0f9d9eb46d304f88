use Rattle.gn_runs.proofs.threads.bodies.run_link.Given as goal

abbrev pub ghosts-in_stage-L-Ledger : goal.ghosts-in_stage-L-Ledger
ghosts-in_stage-L-Ledger g a = record { name = a.unopened.blank.name; parts = a.unopened.blank.parts }

abbrev pub ghosts-in_stage-L-Named : goal.ghosts-in_stage-L-Named
ghosts-in_stage-L-Named g a = record { growing = a.unopened.steps.name }

abbrev pub ghosts-in_stage-L-Site : goal.ghosts-in_stage-L-Site
ghosts-in_stage-L-Site g a = record { stage = a.stage }
