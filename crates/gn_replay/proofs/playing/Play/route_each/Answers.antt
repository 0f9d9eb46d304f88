use Rattle.std.proofs.Common.{arith}
use Rattle.std.specs.Vec.Iter.{into_iter_items}
use Rattle.gn_replay.proofs.RouteLemmas.{routed_one, routing_done, routing_start}
use Rattle.gn_replay.proofs.playing.Play.route_each.Goals as goal

pub loop-ticket-init : goal.loop-ticket-init
loop-ticket-init g c =
    routing_start c.args.self.now (into_iter_items c.into_iter-ticket-iterator.result) c.args.tickets.items c.into_iter-ticket-iterator.ensures.into_iter_gives.0

pub loop-ticket-preserved : goal.loop-ticket-preserved
loop-ticket-preserved g c =
    routed_one c.args.self.now c.loop-ticket.self c.happen.new.self c.in-Some.ticket (into_iter_items c.loop-ticket.ticket-iterator)
    (into_iter_items c.next.new.self) c.args.tickets.items c.in-Some.ensures.steps.0 c.loop-ticket.invariant c.in_ok-happen.ensures.after

pub returns : goal.returns
returns g c =
    routing_done c.args.self.now c.loop-ticket.self (into_iter_items c.loop-ticket.ticket-iterator) c.args.tickets.items
    (omega (arith, c.loop-ticket.ticket-iterator.rest.ok, c.in-None.ensures.steps)) c.loop-ticket.invariant
