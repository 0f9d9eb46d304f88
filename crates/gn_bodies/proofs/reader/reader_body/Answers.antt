use Rattle.std.proofs.Common.{◌∙◌, ap, refl}
use Rattle.std.proofs.lemmas.Result.{on_ok_weaker}
use Rattle.gn_bodies.specs.Done.{half_of}
use Rattle.gn_bodies.proofs.ReadingLemmas.{finished_done}
use Rattle.gn_bodies.proofs.reader.reader_body.Goals as goal

pub returns-clause-done : goal.returns-clause-done
returns-clause-done g c =
    let done = rw (← c.me.view_is) at c.read_link-end.ensures.done in
    let task = c.args.task in
    rw c.into_actor.ensures (finished_done g.Rd.LinkReader.state g.Rd.LinkReader.made_of g.Rd.LinkReader.gives task.turns (half_of task.role task.reader) c.read_link-end.new.known.connection c.me.inside.caller.receipts c.read_link-end.new.reader c.finish.new.self c.read_link-end.result c.finish.ensures.made c.finish.ensures.state done)

pub returns-clause-left : goal.returns-clause-left
returns-clause-left g c =
    let numbers = rw (← c.me.view_is) at c.read_link-end.ensures.numbers in
    let put = rw (← c.me.view_is) at c.read_link-end.ensures.put in
    let closed = rw (← c.me.view_is) at c.read_link-end.ensures.closed in
    record {
      same = (ap (λ me. me.number) c.into_actor.ensures ∙ numbers.0, refl, ap (λ home. home.number) c.finish-2.ensures ∙ numbers.1);
      put = rw (c.into_actor.ensures, c.finish-2.ensures) (on_ok_weaker c.read_link-end.result (λ jobs. jobs refl) put);
      closed = rw c.into_actor.ensures closed;
    }
