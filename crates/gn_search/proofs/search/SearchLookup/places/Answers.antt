use Rattle.std.proofs.Common.{arith, length}
use Rattle.gn_search.proofs.LiveLemmas.{all_from, none_from}
use Rattle.gn_search.proofs.search.SearchLookup.places.Goals as goal

pub returns-clause-all : goal.returns-clause-all
returns-clause-all g c = all_from c.args.self.now.steps

pub returns-clause-end : goal.returns-clause-end
returns-clause-end g c =
    rw (← c.self.view_is, c.as_slice.ensures)
    (none_from (g.H.Steps.items c.self.inside.steps) (length (g.H.Steps.items c.self.inside.steps)) (omega arith))
