use Rattle.std.proofs.Common.{◌≡◌, length, rules, subst, sym}
use Rattle.gn_start.specs.Crews.{IsFaultOfCrew}
use Rattle.gn_start.specs.Table.{EndsBy, HasBeenMade}
use Rattle.gn_start.proofs.OpeningLemmas.{crew_fault, ends_by}
use Rattle.gn_start.proofs.running.run_links.Goals as goal

pub invariant_of-begun : goal.invariant_of-begun
invariant_of-begun g c = record {
  registry_is = c.requires.registry;
  reception_is = c.requires.reception;
  crew = c.requires.crew;
  known = λ links workers e. (c.requires.known links workers e).0;
  keeper = c.requires.keeper;
}

pub finish-over-requires-clause-fault : goal.finish-over-requires-clause-fault
finish-over-requires-clause-fault g c =
    let m = c.args.opened.numbering in
    let table = c.scoped-table.result.0 in
    let fault = c.scoped-table.result.1.fault in
    let same : table.numbering ≡ m = search rules in
    let is : IsFaultOfCrew m fault = search rules in
    crew_fault m table.numbering (length table.states) fault same is

pub returns-clause-came : goal.returns-clause-came
returns-clause-came g c =
    let m = c.args.opened.numbering in
    let table = c.scoped-table.result.0 in
    let first = c.args.incoming in
    let ends = g.V.Incoming.may_end first in
    let same : table.numbering ≡ m = search rules in
    let made : HasBeenMade g.V.Reader.LinkReader.made_of g.V.Incoming.foreknown g.V.Incoming.is_known (g.V.Incoming.may_come first) ends table = search rules in
    c.finish-over.ensures.came first made.now (λ known. subst (λ n. EndsBy n ends) (sym same) (ends_by m g.V.Incoming.is_known ends c.requires.known c.requires.open known))
