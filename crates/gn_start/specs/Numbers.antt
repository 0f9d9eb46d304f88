-- How many actors a run has, and which numbers those of its links have.
use Rattle.std.specs.Prelude.{◌≡◌, ◌+◌, ◌<◌, ◌≤◌, ◌≢◌, ◌^◌, ℕ, ⊤}
use Rattle.gn_actors.specs.Who.{number_of}
use Rattle.gn_actors.specs.declared.who.Numbering.{Numbering}
use Rattle.gn_actors.specs.declared.who.Numbering.TheVariants.{Known, Open}
use Rattle.gn_actors.specs.declared.who.Who.TheVariants.{Reader, Writer}

-- how many links a run has, or may have had, of which so many came: a further one may have been waited for
abbrev pub links_of : Numbering → ℕ → ℕ
links_of (Known n v) came = n
links_of (Open v) came = came + 1

-- how many workers
abbrev pub workers_of : Numbering → ℕ
workers_of (Known n v) = v
workers_of (Open v) = v

-- how many numbers, and so lists, there are once so many links came
abbrev pub numbers_of : Numbering → ℕ → ℕ
numbers_of (Known n v) came = n + n + v + 1
numbers_of (Open v) came = 1 + v + (came + came)

-- the numbers of a link's two actors
abbrev pub reader_of : Numbering → ℕ → ℕ
reader_of m k = number_of m (Reader k)

abbrev pub writer_of : Numbering → ℕ → ℕ
writer_of m k = number_of m (Writer k)

-- how many numbers a run gets more as a link comes
abbrev pub more_of : Numbering → ℕ
more_of (Known n v) = 0
more_of (Open v) = 2

-- no more links came than the run has
abbrev pub IsUpTo : Numbering → ℕ → Type 0
IsUpTo (Known n v) came = came ≤ n
IsUpTo (Open v) came = ⊤

-- there are numbers for one link more than so many
abbrev pub HasRoom : Numbering → ℕ → Type 0
HasRoom (Known n v) came = came < n
HasRoom (Open v) came = 1 + v + (came + came) + 2 < 2 ^ 32

-- where it is known how many links a run has, so many are all
abbrev pub IsFull : Numbering → ℕ → Type 0
IsFull (Known n v) came = came ≡ n
IsFull (Open v) came = ⊤

-- nobody of the first so many links has this number
abbrev pub IsNobodys : Numbering → ℕ → ℕ → Type 0
IsNobodys m came number = (k : ℕ) → k < came → (number ≢ reader_of m k) × (number ≢ writer_of m k)
