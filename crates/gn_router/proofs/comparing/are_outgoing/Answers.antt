use Rattle.std.proofs.Common.{reverse}
use Rattle.gn_decide.specs.Planned.{outgoing_sends}
use Rattle.gn_router.proofs.RestLemmas.{all_found}
use Rattle.gn_router.proofs.comparing.are_outgoing.Goals as goal

pub returns : goal.returns
returns g c =
    all_found c.is_end.result (outgoing_sends (g.L.Lookup.settings c.args.past.now) (reverse (g.L.Lookup.steps c.args.past.now)) c.args.outgoing.now) c.args.sends.now _ _
    c.new-rest.ensures c.in-Ok.ensures c.is_end.ensures
