use Rattle.gn_program.proofs.running.Running.run_bare.Given as goal

abbrev pub ghosts-run_rest : goal.ghosts-run_rest
ghosts-run_rest g a = record { sink = a.lent.sink.ghost_name; begun = g.W.Sink.state a.lent.sink.now }
