use Rattle.std.proofs.Common.{◌≡◌, Some, length, map, take, vec_items}
use Rattle.gn_program.specs.Peers.{peer_at}
use Rattle.gn_program.proofs.serves.addresses.Given as goal

abbrev pub invariant-loop-peer : goal.invariant-loop-peer
invariant-loop-peer l = record {
  many : length (vec_items l.addresses) ≡ l.peer-index;
  each : map peer_at (vec_items l.addresses) ≡ map Some (take l.peer-index l.peers);
}
