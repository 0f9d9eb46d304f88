use Rattle.std.proofs.Common.{◌∙◌, ap, subst, vec_len}
use Rattle.gn_actors.specs.Who.{number_of}
use Rattle.gn_actors.specs.declared.who.Who.TheVariants.{Worker}
use Rattle.gn_start.specs.Begun.{BegunState}
use Rattle.gn_start.specs.Crews.{IsFaultOfCrew}
use Rattle.gn_start.specs.Table.{HasBeenMade}
use Rattle.gn_start.proofs.LoopLemmas.{made_since}
use Rattle.gn_start.proofs.OpeningLemmas.{crew_within}
use Rattle.gn_start.proofs.start.Starter.run.Goals as goal

pub returns-clause-made : goal.returns-clause-made
returns-clause-made g c =
    let b = c.begun.inside in
    let read_of = g.V.Reader.LinkReader.made_of in
    let foreknown = g.V.Incoming.foreknown in
    let is_known = g.V.Incoming.is_known in
    let rest = c.recall.new.incoming in
    let none = ap (λ t. t.states) c.note.ensures.others ∙ c.new-table.ensures.1 in
    let made = made_since read_of foreknown g.V.Incoming.may_come g.V.Incoming.may_end is_known b.incoming rest c.note.new.self c.run_all-table.result c.recall.ensures.coming none c.run_all-table.ensures.made in
    subst (λ (w : BegunState g.row.V.Denot). HasBeenMade read_of foreknown is_known (g.V.Incoming.may_come w.incoming) (g.V.Incoming.may_end w.incoming) c.run_all-table.result) c.begun.view_is made

pub returns-clause-fault : goal.returns-clause-fault
returns-clause-fault g c =
    let b = c.begun.inside in
    let m = b.opened.numbering in
    subst (λ (w : BegunState g.row.V.Denot). IsFaultOfCrew w.numbering c.join-worked.result.fault) c.begun.view_is (record {
      named = λ links workers low. c.join-worked.ensures.fault (number_of m (Worker 0)) (vec_len b.opened.outlets) links workers c.start_workers-crew.ensures.crew (crew_within m (vec_len b.opened.outlets) links workers c.begun.invariant.crew.0 low);
    })
