use Rattle.gn_program.proofs.running.Running.run_metered.Given as goal

abbrev pub ghosts-run_counted : goal.ghosts-run_counted
ghosts-run_counted g a = record { sink = a.lent.sink.ghost_name; begun = g.W.Sink.state a.lent.sink.now }
