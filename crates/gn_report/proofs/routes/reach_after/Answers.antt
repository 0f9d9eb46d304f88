use Rattle.std.proofs.Common.{◌<◌, ◌∙◌, arith, length, rules, sym, refl}
use Rattle.gn_report.proofs.RouteLemmas.{reach_kept, reach_on, unrouted}
use Rattle.gn_report.proofs.routes.reach_after.Goals as goal

pub returns-in_default-route_near-clause-none : goal.returns-in_default-route_near-clause-none
returns-in_default-route_near-clause-none g c = unrouted c.args.steps.now c.args.i c.in-Some.t c.index-steps-i.result c.requires.within (search rules) (search rules)

pub returns-clause-more : goal.returns-clause-more
returns-clause-more g c =
    let at = c.in-Some-route_near.ensures.found in
    let within : c.in-Some-route_near.place < length c.args.steps.now = at.within in
    let before = c.requires.reach.until in
    reach_on c.args.steps.now c.args.i c.in-Some.t c.in-Some-route_near.place c.args.reach (record { near = c.in-Some-route_near.place; until = c.max.result }) c.index-steps-i.result
    c.requires.reach c.requires.within (search rules) at refl (omega arith) (omega arith) (omega arith)

pub returns-in_default-clause-more : goal.returns-in_default-clause-more
returns-in_default-clause-more g c =
    reach_kept c.args.steps.now c.args.i c.args.reach c.index-steps-i.result c.requires.reach c.requires.within (sym c.admitted.ensures ∙ c.in_default.is)

pub route_near-requires : goal.route_near-requires
route_near-requires g c = c.requires.reach.near (omega (arith, c.requires.within))
