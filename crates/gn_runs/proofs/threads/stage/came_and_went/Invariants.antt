use Rattle.gn_runs.proofs.threads.stage.came_and_went.Given as goal

abbrev pub ghosts-many_come_and_go : goal.ghosts-many_come_and_go
ghosts-many_come_and_go g a = record { stage = a.stage }
