-- What the ends of a queue have seen.
use Rattle.std.specs.Prelude.{◌≡◌, ℕ, ◌<◌, List, [], ◌∷◌, ◌++◌, length, slice_index_or, Any}

-- an intake or an outlet: its number among its like, and the jobs that it put, or took, in order
pub record End (J : Type 0) : Type 0 where
  pub number : ℕ
  pub jobs : List J

-- an end that has seen nothing
abbrev pub new_end : {J : Type 0} → ℕ → End J
new_end p = record { number = p; jobs = [] }

-- the end after one job more
abbrev pub with_job : {J : Type 0} → End J → J → End J
with_job e x = record e { jobs = e.jobs ++ x ∷ [] }

-- what a stage was made with: so many intakes and outlets, numbered from 0, and room for so many jobs
pub record Layout : Type 0 where
  pub intakes : ℕ
  pub outlets : ℕ
  pub capacity : ℕ

-- of the ends that were made, numbered from 0, each is among these
abbrev pub AreAllHome : {J : Type 0} → ℕ → List (End J) → Type 0
AreAllHome made ends = (k : ℕ) → k < made → Any (λ e. e.number ≡ k) ends

-- ends that were made and have seen nothing, numbered from 0
abbrev pub AreNew : {J : Type 0} → ℕ → List (End J) → Type 0
AreNew {J} made ends = (length ends ≡ made) × ((k : ℕ) (d : End J) → k < made → slice_index_or ends k d ≡ new_end k)
