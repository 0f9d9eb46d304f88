use Rattle.gn_runs.proofs.threads.homing.one_comes_home_plain.Given as goal

abbrev pub ghosts-one_comes_home-L-Ledger : goal.ghosts-one_comes_home-L-Ledger
ghosts-one_comes_home-L-Ledger g a = record { name = a.unopened.blank.name; parts = a.unopened.blank.parts }

abbrev pub ghosts-one_comes_home-L-Named : goal.ghosts-one_comes_home-L-Named
ghosts-one_comes_home-L-Named g a = record { growing = a.unopened.steps.name }
