use Rattle.gn_runs.proofs.threads.stage.counted.Given as goal

abbrev pub ghosts-many_threads : goal.ghosts-many_threads
ghosts-many_threads g a = record { stage = a.stage }
