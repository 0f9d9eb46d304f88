use Rattle.std.proofs.Common.{not, rules}
use Rattle.std.proofs.lemmas.Fn.{filter_same}
use Rattle.gn_rules.specs.Flight.{is_route}
use Rattle.gn_search.proofs.flying.drop_routed.Goals as goal

pub returns-clause-items : goal.returns-clause-items
returns-clause-items g c =
    filter_same _ (λ t. not (is_route t c.args.event.now)) _ (λ x b f' h. search rules) _ _ c.retain.ensures.filtered
