use Rattle.std.proofs.Common.{◌∙◌, refl, rules, vec_items}
use Rattle.gn_bodies.proofs.RouteLemmas.{took_more, took_none}
use Rattle.gn_bodies.proofs.worker.WorkerHandler.take_jobs.Goals as goal

pub returns-in_default-clause-taken : goal.returns-in_default-clause-taken
returns-in_default-clause-taken g c = took_none c.args.self.now.outlet c.take.new.self (vec_items c.clear.new.self) (search rules) (search rules)

pub returns-clause-taken : goal.returns-clause-taken
returns-clause-taken g c =
    c.in_ok-add_waiting.ensures.taken c.args.self.now.outlet
    (took_more c.args.self.now.outlet c.args.self.now.outlet c.add_job.new.self.outlet c.in-Some.first (vec_items c.clear.new.self) (vec_items c.add_job.new.self.jobs) (took_none c.args.self.now.outlet c.args.self.now.outlet (vec_items c.clear.new.self) refl (search rules)) (c.add_job.ensures.same.1 ∙ c.in-Some.ensures) c.in_ok-add_job.ensures.added)
