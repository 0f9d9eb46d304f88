use Rattle.std.proofs.Common.{◌≡◌, take, map}
use Rattle.gn_hub.specs.HubState.{new_mark}
use Rattle.gn_hub.proofs.slots.Slots.of.Given as goal

abbrev pub invariant-loop-role : goal.invariant-loop-role
invariant-loop-role g l = l.slots ≡ map new_mark (take l.role-index l.roles)
