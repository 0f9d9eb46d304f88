use Rattle.std.proofs.Common.{◌≡◌, ◌∷◌, ap, map, rules}
use Rattle.std.specs.Vec.Iter.{into_iter_items}
use Rattle.std.proofs.Math.Logic.{∥∥₁_elim}
use base.Stored.{Coded-set}
use Rattle.gn_threads.proofs.arrivals.ArrivedArrivals.next.Goals as goal

pub returns-clause-made : goal.returns-clause-made
returns-clause-made g c =
    let first : into_iter_items c.args.self.now.links ≡ c.in-Some.next ∷ into_iter_items c.next.new.self = search rules in
    (ap (λ links. map (λ link. g.K.Reader.LinkReader.made_of link.reader) links) first, ∥∥₁_elim c.in-Some.next.one (Coded-set g.row.K-Origin.coded _ _) (λ e. e))
