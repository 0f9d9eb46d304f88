use Rattle.std.proofs.Common.{reverse}
use Rattle.gn_router.proofs.MostLemmas.{fanned_out, flooded}
use Rattle.gn_router.proofs.answering.most_sends.Goals as goal

pub returns-in-Some : goal.returns-in-Some
returns-in-Some g c =
    rw (c.in-Flood.is, c.live_count.ensures) (flooded (g.L.Lookup.settings c.args.past.now) (reverse (g.L.Lookup.steps c.args.past.now)) (record { origin = c.in-Flood.field-0; packet = c.in-Flood.packet.now }))

pub returns-in-Each : goal.returns-in-Each
returns-in-Each g c =
    rw (c.in-Each.is, c.live_count-in-Each.ensures) (fanned_out (g.L.Lookup.settings c.args.past.now) (reverse (g.L.Lookup.steps c.args.past.now)) 0 c.in-Each.field-0.now)
