use Rattle.std.proofs.Common.{reverse, length, take, vec_capacity}
use Rattle.gn_rules.proofs.RunLemmas.{IsRunning}
use Rattle.gn_rules.proofs.runs.run_events.Given as goal

abbrev pub invariant-loop-event : goal.invariant-loop-event
invariant-loop-event g l =
    IsRunning (g.C.RouterCore.settings l.fn.core) (g.C.RouterCore.settings l.core) (reverse (g.C.RouterCore.steps l.fn.core)) (take l.event-index l.events)
    l.results.items (reverse (g.C.RouterCore.steps l.core)) (length l.events) (vec_capacity l.results)
