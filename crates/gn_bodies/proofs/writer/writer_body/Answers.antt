use Rattle.std.proofs.Common.{◌∙◌, ap, refl}
use Rattle.gn_bodies.proofs.WrittenLemmas.{finished_writer}
use Rattle.gn_bodies.proofs.writer.writer_body.Goals as goal

pub returns-clause-done : goal.returns-clause-done
returns-clause-done g c =
    let me = c.write_link-end.new.self in
    let did = c.write_link-end.ensures in
    rw c.into_actor.ensures (finished_writer g.W.LinkWriter.state g.W.LinkWriter.made_of c.args.task.batch _ c.write_link-end.new.connection me.found_closed me.idle me.caller.receipts me.writer c.finish.new.self c.write_link-end.result (c.finish.ensures.made ∙ did.same.1) c.finish.ensures.state did.written did.steps)

pub returns-clause-left : goal.returns-clause-left
returns-clause-left g c =
    let did = c.write_link-end.ensures in
    record { same = (ap (λ me. me.number) c.into_actor.ensures ∙ did.same.0, refl); steps = rw c.into_actor.ensures did.steps }
