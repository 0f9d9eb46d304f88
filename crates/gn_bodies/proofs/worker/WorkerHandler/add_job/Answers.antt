use Rattle.std.proofs.Common.{ap, rules, vec_items}
use Rattle.gn_bodies.proofs.RouteLemmas.{tickets-push}
use Rattle.gn_bodies.proofs.worker.WorkerHandler.add_job.Goals as goal

pub returns-clause-added : goal.returns-clause-added
returns-clause-added g c =
    tickets-push (vec_items c.args.self.now.jobs) (vec_items c.push.new.self) (c.job.inside.ticket, c.new-checked.result) c.args.job.ticket (search rules) (ap (λ job. job.ticket) c.job.view_is)
