use Rattle.std.proofs.Common.{◌≡◌, ap, refl, subst, sym, true}
use Rattle.gn_start.specs.Over.{views_of}
use Rattle.gn_start.specs.Table.{AreAll, AreFree, EndsBy, all_came}
use Rattle.gn_start.proofs.FinishLemmas.{came_is, over_of, trouble_of}
use Rattle.gn_start.proofs.table.LinkTable.finish.Goals as goal

pub returns-clause-over : goal.returns-clause-over
returns-clause-over g c =
    let t = c.self.inside in
    let o = c.or_lost-is_lost in
    over_of g.B.Limited.turns g.B.Limited.batch (views_of g.V.Reader.LinkReader.state g.V.Writer.LinkWriter.state g.V.Reader.LinkReader.gives g.V.Reader.LinkReader.made_of g.V.Writer.LinkWriter.made_of) g.V.Incoming.has_peers t.numbering g.K.Keeping.keeps c.args.self.numbering _ t.came t.reception.made.intakes t.trouble o.result c.args.worked t.slots t.states.items t.registry
    (ap (λ w. w.numbering) c.self.view_is) c.self.invariant (subst (λ w. AreFree w.live) (sym c.self.view_is) c.requires.free) c.requires.crew refl refl c.ends.ensures refl refl refl
    (trouble_of t.trouble c.with.result o.result c.args.worked.is_lost c.self.invariant.links.found c.with.ensures.lost c.with.ensures.some.0 o.ensures.lost o.ensures.some)

pub returns-clause-came : goal.returns-clause-came
returns-clause-came g c = λ first made by.
    let t = c.self.inside in
    let o = c.or_lost-is_lost in
    let views = views_of g.V.Reader.LinkReader.state g.V.Writer.LinkWriter.state g.V.Reader.LinkReader.gives g.V.Reader.LinkReader.made_of g.V.Writer.LinkWriter.made_of in
    let troubles = trouble_of t.trouble c.with.result o.result c.args.worked.is_lost c.self.invariant.links.found c.with.ensures.lost c.with.ensures.some.0 o.ensures.lost o.ensures.some in
    came_is g.B.Limited.turns g.B.Limited.batch views g.V.Incoming.has_peers t.numbering g.K.Keeping.keeps g.V.Incoming.foreknown g.V.Incoming.is_known (g.V.Incoming.may_come first) (g.V.Incoming.may_end first) _ t.came t.reception.made.intakes t.trouble o.result t.slots t.states.items t.registry
    c.self.invariant (subst (λ w. AreFree w.live) (sym c.self.view_is) c.requires.free) c.ends.ensures refl refl (λ not. (troubles.0 not).0) troubles.1
    (subst (λ w. AreAll views.reader_of g.V.Incoming.foreknown g.V.Incoming.is_known w.is_faulty w.numbering (g.V.Incoming.may_come first) (g.V.Incoming.may_end first) (all_came w.states)) (sym c.self.view_is) made)
    (subst (λ w. g.V.Incoming.is_known ≡ true → EndsBy w.numbering (g.V.Incoming.may_end first)) (sym c.self.view_is) by)
