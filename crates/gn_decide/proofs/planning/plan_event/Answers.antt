use Rattle.gn_decide.proofs.planning.plan_event.Goals as goal

pub returns-in-Admit : goal.returns-in-Admit
returns-in-Admit g c = rw c.in-Admit.is (c.plan_admit.ensures c.in-Admit.field-1)
