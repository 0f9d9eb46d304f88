use Rattle.std.proofs.Common.{refl, ◌∙◌}
use Rattle.std.specs.Vec.Iter.{into_iter_items}
use Rattle.gn_bodies.proofs.JobLemmas.{owing_next}
use Rattle.gn_bodies.proofs.handler.ReaderHandler.put_all.Goals as goal

pub loop-job-init : goal.loop-job-init
loop-job-init g c = record { numbers = (refl, refl); connection = λ d e. e; events = refl; owing = λ before is. is }

pub loop-job-preserved : goal.loop-job-preserved
loop-job-preserved g c =
    let was = c.loop-job.invariant in
    let did = c.put_one_of.ensures in
    record {
      numbers = (did.link.numbers.0 ∙ was.numbers.0, did.link.numbers.1 ∙ was.numbers.1);
      connection = λ d made. did.link.connection d (was.connection d made);
      events = did.link.events ∙ was.events;
      owing = λ before is. did.owing before (into_iter_items c.next.new.self) (owing_next before (into_iter_items c.loop-job.job-iterator) (into_iter_items c.next.new.self) c.in-Some.job c.loop-job.self c.in-Some.ensures.steps.0 (was.owing before is));
    }

pub returns-in-Err-clause-link : goal.returns-in-Err-clause-link
returns-in-Err-clause-link g c = record {
  numbers = (c.put_one_of.ensures.link.numbers.0 ∙ c.loop-job.invariant.numbers.0, c.put_one_of.ensures.link.numbers.1 ∙ c.loop-job.invariant.numbers.1);
  connection = λ d made. c.put_one_of.ensures.link.connection d (c.loop-job.invariant.connection d made);
  events = c.put_one_of.ensures.link.events ∙ c.loop-job.invariant.events;
}

pub returns-in-Err-clause-settled : goal.returns-in-Err-clause-settled
returns-in-Err-clause-settled g c = λ before is no. let yes = c.in-Err.ensures.marked in absurd (cc)

pub returns-clause-link : goal.returns-clause-link
returns-clause-link g c = record { numbers = c.loop-job.invariant.numbers; connection = c.loop-job.invariant.connection; events = c.loop-job.invariant.events }
