use Rattle.gn_runs.proofs.threads.stage.in_one_thread.Given as goal

abbrev pub ghosts-one_thread : goal.ghosts-one_thread
ghosts-one_thread g a = record { stage = a.stage }
