use Rattle.gn_runs.proofs.threads.stage.left.Given as goal

abbrev pub ghosts-outlet_leaves : goal.ghosts-outlet_leaves
ghosts-outlet_leaves g a = record { stage = a.stage }
