use Rattle.std.proofs.Common.{◌≡◌, reverse}
use Rattle.std.specs.List.{fold}
use Rattle.gn_rules.specs.History.{live_connections}
use Rattle.gn_decide.specs.Made.{made_packet}
use Rattle.gn_decide.specs.Others.{to_others}
use Rattle.gn_decide.proofs.sending.fan_out.Given as goal

abbrev pub invariant-loop-place : goal.invariant-loop-place
invariant-loop-place g l =
    fold g.O.Outbox.after l.outbox (to_others (g.L.Lookup.settings l.past) (reverse (g.L.Lookup.steps l.past)) l.except (made_packet l.packet) (g.L.Lookup.live_from l.past l.place))
    ≡ fold g.O.Outbox.after l.fn.outbox (to_others (g.L.Lookup.settings l.past) (reverse (g.L.Lookup.steps l.past)) l.except (made_packet l.packet) (live_connections (reverse (g.L.Lookup.steps l.past))))
