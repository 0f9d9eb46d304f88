-- Bytes of which a prefix was written.
use Rattle.std.specs.Prelude.{◌≡◌, ℕ, List, ◌++◌, Option}
use Rattle.std.specs.Io.KnownBytes.{Appends}

-- known bytes grew by all of these but the rest
abbrev pub LeavesToWrite : Option (List ℕ) → Option (List ℕ) → List ℕ → List ℕ → Type 0
LeavesToWrite old new rest all = (written : List ℕ) × Appends old new written × (written ++ rest ≡ all)

-- known bytes grew by a prefix of these
abbrev pub AppendsPart : Option (List ℕ) → Option (List ℕ) → List ℕ → Type 0
AppendsPart old new all = (rest : List ℕ) × LeavesToWrite old new rest all

-- known bytes grew by a prefix of these, and of the rest, what waits comes first
abbrev pub WaitsPart : Option (List ℕ) → Option (List ℕ) → List ℕ → List ℕ → Type 0
WaitsPart old new waiting all = (rest : List ℕ) × LeavesToWrite old new (waiting ++ rest) all

-- the least bytes of a block
abbrev pub block_size : ℕ
block_size = 32768
