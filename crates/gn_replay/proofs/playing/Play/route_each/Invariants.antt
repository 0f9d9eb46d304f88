use Rattle.std.specs.Vec.Iter.{into_iter_items}
use Rattle.gn_replay.proofs.RouteLemmas.{IsRouting}
use Rattle.gn_replay.proofs.playing.Play.route_each.Given as goal

abbrev pub invariant-loop-ticket : goal.invariant-loop-ticket
invariant-loop-ticket g l = IsRouting l.fn.self l.self (into_iter_items l.ticket-iterator) l.fn.tickets.items
