use Rattle.std.proofs.Common.{◌+◌, ◌<◌, arith, map, subst, sym}
use Rattle.gn_report.specs.Accounts.{report_of}
use Rattle.gn_start.specs.Faults.{IsArrivingFault}
use Rattle.gn_threads.specs.Headline.{Holds}
use Rattle.gn_threads.proofs.FaultLemmas.{in_arriving}
use Rattle.gn_threads.proofs.LeftLemmas.{over_as, workers_here}
use Rattle.gn_threads.proofs.finishing.conclude.Goals as goal

pub confirm-requires-clause-left : goal.confirm-requires-clause-left
confirm-requires-clause-left g c =
    let left = c.args.left in
    let well = c.requires.well c.in_default.is in
    over_as _ _ _ _ _ _ _ left.over left.house (sym well.1) (sym (workers_here _ _ _ _ _ left.over left.house c.requires.left well.0)) c.requires.left

pub confirm-requires-clause-well : goal.confirm-requires-clause-well
confirm-requires-clause-well g c = (c.requires.well c.in_default.is).0

pub confirm-requires-clause-few : goal.confirm-requires-clause-few
confirm-requires-clause-few g c =
    let left = c.args.left in
    let well = c.requires.well c.in_default.is in
    let crew = workers_here _ _ _ _ _ left.over left.house c.requires.left well.0 in
    (omega (arith, well.1, c.requires.few.0), omega (arith, crew, c.requires.few.1))

pub returns-in-Ok-clause-holds : goal.returns-in-Ok-clause-holds
returns-in-Ok-clause-holds g c =
    let left = c.args.left in
    let account = c.in-Ok.account in
    let crew = workers_here _ _ _ _ _ left.over left.house c.requires.left (c.requires.well c.in_default.is).0 in
    subst (λ n. Holds g.L.Limited.batch g.V.Reader.LinkReader.state g.V.Writer.LinkWriter.state c.args.config.now (map (λ link. link.role) account.links.items) n (report_of account)) crew c.in-Ok.ensures.holds

pub returns-in-Err-clause-fault : goal.returns-in-Err-clause-fault
returns-in-Err-clause-fault g c = λ has_peers may.
    let links = c.args.links in
    let workers = c.args.workers in
    let below : c.args.left.house.number < links + links + workers + 1 = omega (arith, c.requires.left.house_is) in
    subst (λ fault. IsArrivingFault has_peers links workers fault) (sym c.halt_alone.ensures.fault.0) (in_arriving has_peers links workers c.in-Err.fault (c.in-Err.ensures.fault links workers below))
