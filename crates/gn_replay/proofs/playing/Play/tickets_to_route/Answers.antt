use Rattle.std.proofs.Common.{◌∙◌, ap, sym}
use Rattle.gn_rules.specs.Flight.{flying}
use Rattle.gn_replay.specs.Routes.{routes}
use Rattle.gn_replay.proofs.RouteLemmas.{ok_so, routes_refused}
use Rattle.gn_replay.proofs.playing.Play.tickets_to_route.Goals as goal

pub returns-then-is_full : goal.returns-then-is_full
returns-then-is_full g c =
    let v = c.args.self.now in
    ok_so c.any_tickets.result (λ tickets same. routes_refused v.settings v.past tickets.items (flying v.past) (sym c.is_full.ensures ∙ c.if-is_full.true) same) c.any_tickets.ensures

pub returns-else-is_full : goal.returns-else-is_full
returns-else-is_full g c =
    let v = c.args.self.now in
    ok_so c.tickets_in_flight.result (λ tickets is. ap (routes v.settings v.past) is) c.tickets_in_flight.ensures
