use Rattle.gn_show.proofs.shows.show.Goals as goal

pub returns-in-Steps-clause-answer : goal.returns-in-Steps-clause-answer
returns-in-Steps-clause-answer g c = rw c.in-Steps.is c.show_steps.ensures.answer

pub returns-in-Steps-clause-written : goal.returns-in-Steps-clause-written
returns-in-Steps-clause-written g c = rw c.in-Steps.is c.show_steps.ensures.written

pub returns-in-Steps-clause-stopped : goal.returns-in-Steps-clause-stopped
returns-in-Steps-clause-stopped g c = rw c.in-Steps.is c.show_steps.ensures.stopped

pub returns-in-Stats-clause-answer : goal.returns-in-Stats-clause-answer
returns-in-Stats-clause-answer g c = rw c.in-Stats.is c.show_stats.ensures.answer

pub returns-in-Stats-clause-written : goal.returns-in-Stats-clause-written
returns-in-Stats-clause-written g c = rw c.in-Stats.is c.show_stats.ensures.written

pub returns-in-Stats-clause-stopped : goal.returns-in-Stats-clause-stopped
returns-in-Stats-clause-stopped g c = rw c.in-Stats.is c.show_stats.ensures.stopped
