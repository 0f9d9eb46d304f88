use Rattle.std.proofs.Common.{◌≡◌, ◌++◌, drop}
use Rattle.gn_words.specs.ConfigTexts.{peers_lines}
use Rattle.gn_words.proofs.said.push_each.Given as goal

abbrev pub invariant-loop-peer : goal.invariant-loop-peer
invariant-loop-peer l = l.out.items ++ peers_lines l.name (drop l.peer-index l.peers) ≡ l.fn.out.items ++ peers_lines l.name l.peers
