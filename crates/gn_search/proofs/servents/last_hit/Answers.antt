use Rattle.std.proofs.Common.{◌∙◌, ap, arith, reverse}
use Rattle.std.specs.Map.{lookup}
use Rattle.std.proofs.lemmas.List.{take_all}
use Rattle.gn_wire.specs.Keys.{is_same_id}
use Rattle.gn_rules.specs.Servents.{servents}
use Rattle.gn_search.specs.Place.{place}
use Rattle.gn_search.specs.Views.{guid, hit_seen}
use Rattle.gn_search.proofs.PlaceLemmas.{place_more, route_more}
use Rattle.gn_search.proofs.servents.last_hit.Goals as goal

pub loop-i-preserved : goal.loop-i-preserved
loop-i-preserved g c =
    let steps = c.args.history.now in
    let x = guid c.args.x.now in
    record {
      bound = omega (arith, c.place_with-later.ensures.bound, c.loop-i.invariant.bound);
      route =
          route_more steps c.loop-i.i c.index-history-i.result c.loop-i-test.true c.index-history-i.is x (hit_seen c.hit_in-hit.result) c.loop-i.route c.route_with-route.result
          c.hit_in-hit.ensures c.loop-i.invariant.route c.route_with-route.ensures;
      later =
          place_more steps c.loop-i.i c.index-history-i.result c.loop-i-test.true c.index-history-i.is x (hit_seen c.hit_in-hit.result) c.place_with-later.result
          c.hit_in-hit.ensures c.place_with-later.ensures.value;
    }

pub returns : goal.returns
returns g c =
    let whole = take_all c.loop-i.i c.args.history.now c.loop-i-test.false in
    record {
      route = c.loop-i.invariant.route ∙ ap (λ steps. lookup (is_same_id (guid c.args.x.now)) (servents (reverse steps))) whole;
      later = c.loop-i.invariant.later ∙ ap (λ steps. place (is_same_id (guid c.args.x.now)) (servents (reverse steps))) whole;
    }
