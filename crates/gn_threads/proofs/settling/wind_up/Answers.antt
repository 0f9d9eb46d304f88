use Rattle.std.proofs.Common.{◌∙◌}
use Rattle.gn_threads.proofs.HouseLemmas.{houses_still}
use Rattle.gn_threads.proofs.settling.wind_up.Goals as goal

pub returns-clause-house : goal.returns-clause-house
returns-clause-house g c = λ recalls originates number is.
    let alone = c.settle-fault.ensures.alone in
    record { is = alone.0 ∙ is.is; own = λ none. houses_still originates c.args.house c.settle-fault.new.house alone.1 (is.own none) }
