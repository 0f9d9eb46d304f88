use Rattle.std.proofs.Common.{ap, sym, ◌∙◌}
use Rattle.std.specs.FinMap as map
use Rattle.gn_tables.proofs.MapLemmas.{len_entries}
use Rattle.gn_tables.proofs.flights.Flights.len.Goals as goal

pub returns-clause-value : goal.returns-clause-value
returns-clause-value g c = c.len.ensures.len ∙ sym (len_entries c.self.inside.flights.entries c.len.ensures.unique) ∙ ap (λ f. map.len f.flights) c.self.view_is
