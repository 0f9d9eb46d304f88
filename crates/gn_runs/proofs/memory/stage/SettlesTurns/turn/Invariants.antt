use Rattle.gn_runs.proofs.memory.stage.SettlesTurns.turn.Given as goal

abbrev pub ghosts-settles_of : goal.ghosts-settles_of
ghosts-settles_of g a = record { stage = a.stage }
