-- An actor as contracts see it: one of the callers of a router, and the receipts of its calls.
use Rattle.std.specs.Prelude.{◌≡◌, ◌<◌, ℕ, List, length, slice_index_or}
pub use Rattle.gn_actors.specs.ActorState.{ActorState, new_actor, receipt, with_receipt}

-- so many actors, numbered from 0 on, without receipts
pub record AreNew {A : Type 0} (count : ℕ) (actors : List (ActorState A)) : Type 0 where
  pub long : length actors ≡ count
  pub each : (k : ℕ) (d : ActorState A) → k < count → slice_index_or actors k d ≡ new_actor k
