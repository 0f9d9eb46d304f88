use Rattle.std.proofs.Common.{◌≡◌, ◌≤◌, ◌++◌, ◌-◌, replicate}
use Rattle.gn_shake.specs.declared.role.Role.TheVariants.{Accepting, Calling}
use Rattle.gn_service.proofs.peers.roles_of.Given as goal

abbrev pub decreases-loop-link : goal.decreases-loop-link
decreases-loop-link l = l.calls - l.link

abbrev pub invariant-loop-link : goal.invariant-loop-link
invariant-loop-link l = record {
  within : l.link ≤ l.calls;
  roles : l.roles ≡ replicate l.link Calling ++ replicate (256 - l.link) Accepting;
}
