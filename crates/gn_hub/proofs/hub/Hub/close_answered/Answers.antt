use Rattle.gn_hub.proofs.StepLemmas.{closed_now}
use Rattle.gn_hub.proofs.WakingLemmas.{close_leaves}
use Rattle.gn_hub.proofs.hub.Hub.close_answered.Goals as goal

pub returns-in-Ok-clause-answer : goal.returns-in-Ok-clause-answer
returns-in-Ok-clause-answer g c = closed_now c.args.c c.args.self.now c.step_with.new.self c.args.me.now c.step_with.new.me c.answers_fit.ensures c.in-Ok.ensures

pub returns-in-Ok-clause-quiet : goal.returns-in-Ok-clause-quiet
returns-in-Ok-clause-quiet g c = close_leaves c.args.c c.args.self.now c.step_with.new.self c.args.me.now c.step_with.new.me c.wakes_at_least.result c.answers_fit.ensures c.in-Ok.ensures c.wakes_at_least.ensures
