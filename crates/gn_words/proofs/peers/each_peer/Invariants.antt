use Rattle.std.proofs.Common.{◌≡◌, [], drop, map, length}
use Rattle.gn_words.specs.Options.{peers_after}
use Rattle.gn_words.proofs.peers.each_peer.Given as goal

abbrev pub invariant-loop-text : goal.invariant-loop-text
invariant-loop-text l = record {
  many : length l.peers.items ≡ l.text-index;
  read : peers_after l.far l.peers.items (map (λ s. s.now) (drop l.text-index l.texts)) ≡ peers_after l.far [] (map (λ s. s.now) l.texts);
}
