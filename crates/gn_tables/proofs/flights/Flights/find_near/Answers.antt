use Rattle.std.proofs.Common.{ap, sym, ◌∙◌}
use Rattle.std.specs.FinMap as map
use Rattle.gn_tables.proofs.MapLemmas.{get_entries}
use Rattle.gn_tables.proofs.flights.Flights.find_near.Goals as goal

pub returns : goal.returns
returns g c = c.flight_near.ensures ∙ sym (get_entries c.self.inside.flights.entries c.args.ticket) ∙ ap (λ f. map.get f.flights c.args.ticket) c.self.view_is
