use Rattle.gn_threads.proofs.ending.run_to_end.Goals as goal

pub returns-clause-house : goal.returns-clause-house
returns-clause-house g c = rw (← c.begun.view_is) (c.wind_up.ensures.house _ _ _ c.run_links-over.ensures.house)
