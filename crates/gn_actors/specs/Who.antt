-- The numbers of a run's actors.
use Rattle.std.specs.Prelude.{◌≡◌, ◌+◌, ◌<◌, ℕ, ⊤}
use Rattle.gn_actors.specs.declared.who.Numbering.{Numbering}
use Rattle.gn_actors.specs.declared.who.Numbering.TheVariants.{Known, Open}
use Rattle.gn_actors.specs.declared.who.Who.{Who}
use Rattle.gn_actors.specs.declared.who.Who.TheVariants.{Reader, Writer, Worker, House}

-- the number of an actor: the readers of n links first, then the writers, the v workers, and last the house; in an open run the
-- house, the workers, and then two for each link
abbrev pub number_of : Numbering → Who → ℕ
number_of (Known n v) (Reader k) = k
number_of (Known n v) (Writer k) = n + k
number_of (Known n v) (Worker j) = n + n + j
number_of (Known n v) House = n + n + v
number_of (Open v) House = 0
number_of (Open v) (Worker j) = 1 + j
number_of (Open v) (Reader k) = 1 + v + (k + k)
number_of (Open v) (Writer k) = 2 + v + (k + k)

-- the greatest number that is looked at for an actor's: of known links the greatest of all, else its own
abbrev pub most_beside : Numbering → Who → ℕ
most_beside (Known n v) who = n + n + v
most_beside (Open v) who = number_of (Open v) who

-- whether the run has this actor: of links that come one after another, each that may come
abbrev pub IsActor : Numbering → Who → Type 0
IsActor (Known n v) (Reader k) = k < n
IsActor (Known n v) (Writer k) = k < n
IsActor (Known n v) (Worker j) = j < v
IsActor (Known n v) House = ⊤
IsActor (Open v) (Reader k) = ⊤
IsActor (Open v) (Writer k) = ⊤
IsActor (Open v) (Worker j) = j < v
IsActor (Open v) House = ⊤

-- no two actors of a run have one number
abbrev pub NumbersAreApart : Type 0
NumbersAreApart = (m : Numbering) (p q : Who) → IsActor m p → IsActor m q → number_of m p ≡ number_of m q → p ≡ q
