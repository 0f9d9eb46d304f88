use Rattle.gn_replay.proofs.RouteLemmas.{IsFinding}
use Rattle.gn_replay.proofs.playing.Play.tickets_in_flight.Given as goal

abbrev pub invariant-loop-next : goal.invariant-loop-next
invariant-loop-next g l = IsFinding l.self.past l.next l.tickets.items

abbrev pub decreases-loop-next : goal.decreases-loop-next
decreases-loop-next g l = l.next
