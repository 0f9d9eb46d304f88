use Rattle.gn_runs.proofs.threads.stage.is_drained.Given as goal

abbrev pub ghosts-open_stage : goal.ghosts-open_stage
ghosts-open_stage g a = record { stage = a.stage }
