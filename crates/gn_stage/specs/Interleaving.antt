-- Interleavings.
use Rattle.std.specs.Prelude.{◌≡◌, ◌≢◌, ◌==◌, ℕ, List, [], ◌∷◌, length, if◌then◌else◌, All, Any, AllPairs}
use Rattle.gn_stage.specs.Ends.{End}

-- the items of one owner, in order, where the first list names the owner of each item of the second
abbrev pub items_of : {J : Type 0} → ℕ → List ℕ → List J → List J
items_of p [] q = []
items_of p (o ∷ owners) [] = []
items_of p (o ∷ owners) (x ∷ q) = if o == p then x ∷ items_of p owners q else items_of p owners q

-- an interleaving of what these ends saw: each item has one of them as its owner, and the items of each, in order, are
-- its jobs
pub record IsInterleaving {J : Type 0} (q : List J) (ends : List (End J)) : Type 0 where
  pub owners : List ℕ
  pub long : length owners ≡ length q
  pub each : All (λ e. items_of e.number owners q ≡ e.jobs) ends
  pub only : All (λ o. Any (λ e. e.number ≡ o) ends) owners
  pub apart : AllPairs (λ a b. a.number ≢ b.number) ends
