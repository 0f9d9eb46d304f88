use Rattle.gn_rules.specs.Limits.{most_reads}
use Rattle.gn_threads.proofs.entering.run_open.Given as goal

abbrev pub ghosts-run_open_in-B-Ledger : goal.ghosts-run_open_in-B-Ledger
ghosts-run_open_in-B-Ledger g a = record { name = a.unopened.blank.name; parts = a.unopened.blank.parts }

abbrev pub ghosts-run_open_in-B-Named : goal.ghosts-run_open_in-B-Named
ghosts-run_open_in-B-Named g a = record { growing = a.unopened.steps.name }

abbrev pub ghosts-run_open_in-B-Site : goal.ghosts-run_open_in-B-Site
ghosts-run_open_in-B-Site g a = record { stage = a.stage }

abbrev pub ghosts-run_open_in-B-Limited : goal.ghosts-run_open_in-B-Limited
ghosts-run_open_in-B-Limited g a = record { turns = most_reads a.asked.now.config.now.numbers.steps; batch = a.asked.now.batch }
