use Rattle.std.proofs.Common.{◌≡◌, ◌∙◌, None, Some, ap, false, set, subst, sym}
use Rattle.std.specs.List.{slice_get}
use Rattle.gn_report.specs.Looks.{AreCounted}
use Rattle.gn_start.specs.declared.fault.RunFault.TheVariants.{NoMemory}
use Rattle.gn_start.specs.Over.{views_of}
use Rattle.gn_start.specs.Seats.{Seat}
use Rattle.gn_start.specs.Table.{all_came, with_end}
use Rattle.gn_start.proofs.KeptLemmas.{of_three, seat_is_out, table_ended, table_same}
use Rattle.gn_start.proofs.ListLemmas.{same_free}
use Rattle.gn_start.proofs.TableLemmas.{came_same}
use Rattle.gn_start.proofs.table.LinkTable.retire.Goals as goal

pub come_home-home-requires-clause-reader : goal.come_home-home-requires-clause-reader
come_home-home-requires-clause-reader g c = let t = c.self.inside in (seat_is_out g.B.Limited.turns g.B.Limited.batch (views_of g.V.Reader.LinkReader.state g.V.Writer.LinkWriter.state g.V.Reader.LinkReader.gives g.V.Reader.LinkReader.made_of g.V.Writer.LinkWriter.made_of) g.V.Incoming.has_peers t.numbering (g.K.Keeping.keeps t.keeper) t.came t.reception.made.intakes c.args.slot t.trouble t.looks t.slots t.states.items t.registry c.in-Some.live c.self.invariant c.in-Some.ensures.taken).0

pub come_home-home-requires-clause-writer : goal.come_home-home-requires-clause-writer
come_home-home-requires-clause-writer g c = let t = c.self.inside in (seat_is_out g.B.Limited.turns g.B.Limited.batch (views_of g.V.Reader.LinkReader.state g.V.Writer.LinkWriter.state g.V.Reader.LinkReader.gives g.V.Reader.LinkReader.made_of g.V.Writer.LinkWriter.made_of) g.V.Incoming.has_peers t.numbering (g.K.Keeping.keeps t.keeper) t.came t.reception.made.intakes c.args.slot t.trouble t.looks t.slots t.states.items t.registry c.in-Some.live c.self.invariant c.in-Some.ensures.taken).1

pub come_home-home-requires-clause-apart : goal.come_home-home-requires-clause-apart
come_home-home-requires-clause-apart g c = let t = c.self.inside in (seat_is_out g.B.Limited.turns g.B.Limited.batch (views_of g.V.Reader.LinkReader.state g.V.Writer.LinkWriter.state g.V.Reader.LinkReader.gives g.V.Reader.LinkReader.made_of g.V.Writer.LinkWriter.made_of) g.V.Incoming.has_peers t.numbering (g.K.Keeping.keeps t.keeper) t.came t.reception.made.intakes c.args.slot t.trouble t.looks t.slots t.states.items t.registry c.in-Some.live c.self.invariant c.in-Some.ensures.taken).2

pub come_home-home-requires-clause-role : goal.come_home-home-requires-clause-role
come_home-home-requires-clause-role g c = let t = c.self.inside in (seat_is_out g.B.Limited.turns g.B.Limited.batch (views_of g.V.Reader.LinkReader.state g.V.Writer.LinkWriter.state g.V.Reader.LinkReader.gives g.V.Reader.LinkReader.made_of g.V.Writer.LinkWriter.made_of) g.V.Incoming.has_peers t.numbering (g.K.Keeping.keeps t.keeper) t.came t.reception.made.intakes c.args.slot t.trouble t.looks t.slots t.states.items t.registry c.in-Some.live c.self.invariant c.in-Some.ensures.taken).3

pub invariant_of-self : goal.invariant_of-self
invariant_of-self g c =
    let t = c.self.inside in
    table_same g.B.Limited.turns g.B.Limited.batch (views_of g.V.Reader.LinkReader.state g.V.Writer.LinkWriter.state g.V.Reader.LinkReader.gives g.V.Reader.LinkReader.made_of g.V.Writer.LinkWriter.made_of) g.V.Incoming.has_peers t.numbering (g.K.Keeping.keeps t.keeper) t.came t.reception.made.intakes t.trouble t.looks t.slots c.take.new.self t.states.items t.registry
    (same_free t.slots c.take.new.self c.args.slot c.in_default.ensures.slots c.in_default.ensures.free) c.self.invariant

pub invariant_of-self-2 : goal.invariant_of-self-2
invariant_of-self-2 g c =
    let t = c.self.inside in
    let home = c.come_home-home in
    let e_states = c.ended.ensures ∙ ap (λ (p : Seat g.row.V-Reader.Denot g.row.V-Writer.Denot). with_end t.states.items p.link home.result.0.end) c.live.view_is in
    table_ended g.B.Limited.turns g.B.Limited.batch (views_of g.V.Reader.LinkReader.state g.V.Writer.LinkWriter.state g.V.Reader.LinkReader.gives g.V.Reader.LinkReader.made_of g.V.Writer.LinkWriter.made_of) g.V.Incoming.has_peers t.numbering (g.K.Keeping.keeps t.keeper) (g.K.Keeping.keeps c.hand_on.new.keeper) t.came t.reception.made.intakes c.take_home.new.self.made.intakes c.args.slot
    t.trouble c.hand_on.result home.result.0.fault t.looks c.hand_on.new.looks t.slots c.take.new.self t.states.items c.ended.result.items t.registry home.new.registry c.in-Some.live home.result.0.end home.result.0.read.items home.result.0.written.items
    c.self.invariant c.in-Some.ensures.taken c.in-Some.ensures.slots e_states home.ensures.registry home.ensures.began (ap (λ x. x.made.intakes) c.take_home.ensures) home.ensures.kept home.ensures.whole home.ensures.fault
    (λ e. c.hand_on.ensures.lost (c.with.ensures.lost ∙ e)) (c.hand_on.ensures.found (λ e. c.with.ensures.some.0 (c.self.invariant.links.found (sym c.with.ensures.lost ∙ e))))
    (λ e. c.hand_on.ensures.some (c.with.ensures.some.0 e)) (λ e. c.hand_on.ensures.some (c.with.ensures.some.1 e))
    (of_three t.trouble.fault home.result.0.fault (Some NoMemory) c.with.result.fault c.hand_on.result.fault c.with.ensures.one c.hand_on.ensures.one)
    (λ all. subst (λ (p : Seat g.row.V-Reader.Denot g.row.V-Writer.Denot). g.K.Keeping.keeps t.keeper all → c.hand_on.result.is_lost ≡ false → g.K.Keeping.keeps c.hand_on.new.keeper (set all p.link (Some home.result.0.end))) c.live.view_is (c.hand_on.ensures.keeps all))
    (λ all. subst (λ (p : Seat g.row.V-Reader.Denot g.row.V-Writer.Denot). slice_get all p.link ≡ Some None → AreCounted t.looks all → AreCounted c.hand_on.new.looks (set all p.link (Some home.result.0.end))) c.live.view_is (c.hand_on.ensures.counted all))

pub returns-clause-came : goal.returns-clause-came
returns-clause-came g c =
    let t = c.self.inside in
    ap all_came c.ended.ensures ∙ came_same t.states.items c.live.inside.link c.come_home-home.result.0.end ∙ ap (λ v. all_came v.states) c.self.view_is
