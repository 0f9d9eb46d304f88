use Rattle.gn_threads.proofs.CourseLemmas.{left_unopened}
use Rattle.gn_threads.proofs.arriving.run_arriving_by.Goals as goal

pub returns-then-workers-eq0-clause-rest : goal.returns-then-workers-eq0-clause-rest
returns-then-workers-eq0-clause-rest g c = left_unopened _ _ _ c.before-then-workers-eq0.result c.before-then-workers-eq0.ensures.1 c.give_up.ensures

pub returns-in_default-clause-rest : goal.returns-in_default-clause-rest
returns-in_default-clause-rest g c = left_unopened _ _ _ c.before-in_default.result c.before-in_default.ensures.1 c.give_up-in_default.ensures
