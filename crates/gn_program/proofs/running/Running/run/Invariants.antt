use Rattle.gn_program.proofs.running.Running.run.Given as goal

abbrev pub ghosts-run_commented : goal.ghosts-run_commented
ghosts-run_commented g a = record { sink = a.lent.sink.ghost_name; begun = g.W.Sink.state a.lent.sink.now }
