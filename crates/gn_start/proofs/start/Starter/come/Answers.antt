use Rattle.std.proofs.Common.{◌≡◌, ◌∙◌, ◌<◌, ◌++◌, ◌∷◌, [], None, ap, get_or, length, refl, subst, sym}
use Rattle.gn_start.specs.Kept.{IsTable}
use Rattle.gn_start.specs.Numbers.{HasRoom}
use Rattle.gn_start.specs.Over.{views_of}
use Rattle.gn_start.specs.Table.{all_came}
use Rattle.gn_start.specs.declared.states.LinkState.TheVariants.{At, Lost}
use Rattle.gn_start.proofs.KeptLemmas.{seat_is, table_come, table_lost}
use Rattle.gn_start.proofs.TableLemmas.{came_more}
use Rattle.gn_start.proofs.start.Starter.come.Goals as goal
use Rattle.gn_start.proofs.start.Starter.come.Goals.{in-None, in-Some}

pub invariant_of-table : goal.invariant_of-table
invariant_of-table g c =
    let t = c.table.inside in
    let views = views_of g.V.Reader.LinkReader.state g.V.Writer.LinkWriter.state g.V.Reader.LinkReader.gives g.V.Reader.LinkReader.made_of g.V.Writer.LinkWriter.made_of in
    let room = subst (λ n. HasRoom t.numbering n) c.table.invariant.links.many (subst (λ v. HasRoom v.numbering (length v.states)) (sym c.table.view_is) c.requires.room) in
    let below = subst (λ v. c.args.slot < length v.live) (sym c.table.view_is) c.requires.free.0 in
    let free = subst (λ v. get_or v.live c.args.slot None ≡ None) (sym c.table.view_is) c.requires.free.1 in
    let actors = c.next_actors-actors in
    elim c.match-begin.branch [
      | in-Some w ↦
          subst (λ s. IsTable g.B.Limited.turns g.B.Limited.batch views g.V.Incoming.has_peers (g.K.Keeping.keeps s.keeper) s.numbering s.came s.reception.made.intakes s.trouble s.looks s.slots s.states.items s.registry) (sym w.table-inside-is)
          (table_come g.B.Limited.turns g.B.Limited.batch views g.V.Incoming.has_peers t.numbering (g.K.Keeping.keeps t.keeper) (g.K.Keeping.keeps c.begin.new.keeper) t.came t.reception.made.intakes c.begin.new.reception.made.intakes c.args.slot
          t.trouble t.looks t.slots w.put.new.self t.states.items w.at.result.items t.registry actors.new.registry c.args.link w.in-Some.live c.table.invariant room c.requires.one below free
          (seat_is t.numbering t.came c.args.link w.in-Some.live actors.result.0 actors.result.1 actors.ensures.reader actors.ensures.writer w.in-Some.ensures.live) w.put.ensures (w.at.ensures ∙ ap (λ n. t.states.items ++ At c.args.slot n ∷ []) c.of-new.ensures)
          actors.ensures.registry c.begin.ensures.made w.in-Some.ensures.keeps)
      | in-None w ↦
          subst (λ s. IsTable g.B.Limited.turns g.B.Limited.batch views g.V.Incoming.has_peers (g.K.Keeping.keeps s.keeper) s.numbering s.came s.reception.made.intakes s.trouble s.looks s.slots s.states.items s.registry) (sym w.table-inside-is)
          (table_lost g.B.Limited.turns g.B.Limited.batch views g.V.Incoming.has_peers t.numbering (g.K.Keeping.keeps t.keeper) (g.K.Keeping.keeps c.begin.new.keeper) t.came t.reception.made.intakes c.begin.new.reception.made.intakes
          t.trouble w.lost-in-None.result t.looks t.slots t.slots t.states.items w.lost.result.items t.registry actors.new.registry c.args.link c.table.invariant room c.requires.one
          w.lost-in-None.ensures.lost w.lost-in-None.ensures.some w.lost-in-None.ensures.one refl (w.lost.ensures ∙ ap (λ n. t.states.items ++ Lost n ∷ []) c.of-new.ensures)
          actors.ensures.registry c.begin.ensures.made)
    ]

pub returns-clause-came : goal.returns-clause-came
returns-clause-came g c =
    let t = c.table.inside in
    let then = ap (λ v. all_came v.states ++ c.args.link ∷ []) c.table.view_is in
    elim c.match-begin.branch [
      | in-Some w ↦ ap (λ s. all_came s.states.items) w.table-inside-is ∙ came_more t.states.items w.at.result.items (At c.args.slot c.args.link) (w.at.ensures ∙ ap (λ n. t.states.items ++ At c.args.slot n ∷ []) c.of-new.ensures) ∙ then
      | in-None w ↦ ap (λ s. all_came s.states.items) w.table-inside-is ∙ came_more t.states.items w.lost.result.items (Lost c.args.link) (w.lost.ensures ∙ ap (λ n. t.states.items ++ Lost n ∷ []) c.of-new.ensures) ∙ then
    ]
