use Rattle.std.proofs.Common.{◌∙◌, reverse}
use Rattle.gn_decide.specs.Planned.{outgoing_sends}
use Rattle.gn_router.proofs.SendLemmas.{all_made}
use Rattle.gn_router.proofs.answering.sends_of.Goals as goal

pub returns : goal.returns
returns g c =
    c.from_vec.ensures ∙ all_made _ (outgoing_sends (g.L.Lookup.settings c.args.past.now) (reverse (g.L.Lookup.steps c.args.past.now)) c.args.outgoing.now) _
    c.in_ok-room.ensures.items (c.maker.view_is ∙ c.in_ok-send_all.ensures)
