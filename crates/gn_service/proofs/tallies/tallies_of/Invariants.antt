use Rattle.std.proofs.Common.{◌≡◌, take}
use Rattle.gn_service.specs.Tallies.{tallies_of}
use Rattle.gn_service.proofs.tallies.tallies_of.Given as goal

abbrev pub invariant-loop-link : goal.invariant-loop-link
invariant-loop-link g l = l.tallies.items ≡ tallies_of (take l.link-index l.links)
