use Rattle.std.proofs.Common.{◌≡◌, [], drop}
use Rattle.gn_load.specs.Links.{links_from}
use Rattle.gn_load.proofs.links.read_links.Given as goal

abbrev pub invariant-loop-number : goal.invariant-loop-number
invariant-loop-number g l = links_from l.links.items (drop l.number-index l.lines) ≡ links_from [] l.lines
