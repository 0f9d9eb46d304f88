use Rattle.std.proofs.Common.{◌≡◌, replicate}
use Rattle.gn_hub.specs.HubState.{free_mark}
use Rattle.gn_hub.proofs.slots.Slots.free.Given as goal

abbrev pub invariant-loop : goal.invariant-loop
invariant-loop g l = l.slots ≡ replicate l.counter free_mark
