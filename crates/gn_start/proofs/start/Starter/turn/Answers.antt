use Rattle.std.proofs.Common.{◌∙◌, ◌∷◌, ◌++◌, [], ap}
use Rattle.gn_start.specs.Table.{all_came}
use Rattle.gn_start.proofs.LoopLemmas.{coming_more}
use Rattle.gn_start.proofs.start.Starter.turn.Goals as goal

pub returns-in-Some-clause-goes : goal.returns-in-Some-clause-goes
returns-in-Some-clause-goes g c = λ first so goes.
    let link = c.in-Ok-Link.new in
    let came = rw c.in-Ok-Link.field-0-is at c.in-Ok-Link.ensures.coming in
    let was = c.args.incoming.now in
    let now = c.next.new.self in
    coming_more g.V.Reader.LinkReader.made_of g.V.Incoming.foreknown g.V.Incoming.may_come g.V.Incoming.may_end g.V.Reader.LinkReader.state g.V.Writer.LinkWriter.state g.V.Writer.LinkWriter.made_of first was now (all_came c.args.table.now.states) (all_came c.come.new.table.states) link
    (c.come.ensures.came ∙ ap (λ links. links ++ link ∷ []) c.retire_ended.ensures.came) came.1 so
