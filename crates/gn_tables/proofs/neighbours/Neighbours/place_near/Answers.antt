use Rattle.std.proofs.Common.{subst, sym}
use Rattle.std.specs.List.Sorted.{IsStrictlyIncreasing}
use Rattle.std.specs.Map.{keys_of}
use Rattle.gn_tables.proofs.neighbours.Neighbours.place_near.Goals as goal

pub place_of-requires : goal.place_of-requires
place_of-requires g c = subst (λ rows. IsStrictlyIncreasing (keys_of rows)) (sym c.deref.ensures.value) c.self.invariant.ascending
