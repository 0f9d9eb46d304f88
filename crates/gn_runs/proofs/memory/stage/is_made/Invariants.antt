use Rattle.gn_runs.proofs.memory.stage.is_made.Given as goal

abbrev pub ghosts-has_ends : goal.ghosts-has_ends
ghosts-has_ends g a = record { stage = a.stage }
