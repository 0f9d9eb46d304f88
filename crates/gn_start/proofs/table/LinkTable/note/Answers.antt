use Rattle.std.proofs.Common.{length, subst, sym}
use Rattle.std.specs.Prelude.{IfSome}
use Rattle.gn_start.specs.Faults.{IsArrivingFault}
use Rattle.gn_start.specs.Numbers.{links_of, workers_of}
use Rattle.gn_start.specs.Over.{views_of}
use Rattle.gn_start.proofs.KeptLemmas.{table_noted}
use Rattle.gn_start.proofs.table.LinkTable.note.Goals as goal

pub invariant_of-self : goal.invariant_of-self
invariant_of-self g c =
    let t = c.self.inside in
    let with = c.with-self-inside in
    let named = subst (λ v. IfSome c.args.found (λ f. IsArrivingFault g.V.Incoming.has_peers (links_of v.numbering (length v.states)) (workers_of v.numbering) f)) (sym c.self.view_is) c.requires in
    table_noted g.B.Limited.turns g.B.Limited.batch (views_of g.V.Reader.LinkReader.state g.V.Writer.LinkWriter.state g.V.Reader.LinkReader.gives g.V.Reader.LinkReader.made_of g.V.Writer.LinkWriter.made_of) g.V.Incoming.has_peers t.numbering (g.K.Keeping.keeps t.keeper) t.came t.reception.made.intakes t.trouble with.result c.args.found t.looks t.slots t.states.items t.registry
    c.self.invariant with.ensures.lost with.ensures.some.0 with.ensures.one
    (subst (λ n. IfSome c.args.found (λ f. IsArrivingFault g.V.Incoming.has_peers (links_of t.numbering n) (workers_of t.numbering) f)) c.self.invariant.links.many named)
