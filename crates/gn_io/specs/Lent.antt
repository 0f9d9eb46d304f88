-- What waits, where it is lent.
use Rattle.std.specs.Prelude.{ℕ, List, Vec}
use Rattle.std.specs.Borrow.{Fml, Lends, MutBor, RattleType, u8}
use Rattle.std.specs.declared.alloc.Allocator.{Ghosts}
use Rattle.std.specs.contracts.vec.Vec.{the_row as vec_row}
use Rattle.gn_io.specs.contracts.block.Block.{the_row}

module _ (A : RattleType) (alloc : Ghosts A.Denot) where
  -- what waits in the end is what was left in the vector that was lent
  abbrev pub lends_bytes : MutBor (List ℕ) → MutBor (Vec ℕ A.Denot) → Fml
  lends_bytes b r = Lends (the_row A alloc) (vec_row u8 A alloc) b r (λ v. v.items)
