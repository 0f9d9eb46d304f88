use Rattle.gn_bench.proofs.stage.measure_stage.Given as goal

abbrev pub ghosts-pass_on : goal.ghosts-pass_on
ghosts-pass_on g a = record { stage = a.stage }
