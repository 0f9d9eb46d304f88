use Rattle.std.proofs.Common.{◌∙◌, ap, refl, subst, sym, vec_items}
use Rattle.gn_bodies.specs.Jobs.{HasTakenJobs}
use Rattle.gn_bodies.proofs.RouteLemmas.{took_more}
use Rattle.gn_bodies.proofs.worker.WorkerHandler.add_waiting.Goals as goal

pub loop-init : goal.loop-init
loop-init g c = record { same = (refl, refl); taken = λ before was. was }

pub loop-preserved : goal.loop-preserved
loop-preserved g c =
    let was = c.loop.invariant in
    record {
      same = (c.add_job.ensures.same.0 ∙ was.same.0, ap (λ outlet. outlet.number) c.add_job.ensures.same.1 ∙ ap (λ outlet. outlet.number) c.in-Some.ensures ∙ was.same.1);
      taken = λ before first. took_more before c.loop.self.outlet c.add_job.new.self.outlet c.in-Some.job (vec_items c.loop.self.jobs) (vec_items c.add_job.new.self.jobs) (was.taken before first) (c.add_job.ensures.same.1 ∙ c.in-Some.ensures) c.in_ok-add_job.ensures.added;
    }

pub returns-in_default-clause-taken : goal.returns-in_default-clause-taken
returns-in_default-clause-taken g c = λ before was.
    subst (λ w. HasTakenJobs before w (vec_items c.loop.self.jobs)) (sym c.in_default.ensures) (c.loop.invariant.taken before was)
