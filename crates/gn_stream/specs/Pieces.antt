-- What was read of an input at once.
use Rattle.std.specs.Prelude.{◌≤◌, if◌then◌else◌, ℕ, Bool, List, [], length}

-- the line that was found in it, and what of it wasn't gone over
pub record Pieced : Type 0 where
  pub line : List ℕ
  pub held : List ℕ

-- these two places, in their order, are within a list
abbrev pub IsRange : ℕ → ℕ → List ℕ → Type 0
IsRange from to bytes = (from ≤ to) × (to ≤ length bytes)

-- nothing was read
abbrev pub untouched : Pieced
untouched = record { line = []; held = [] }

-- the line that was given last: a copy, or what was found in the piece
abbrev pub line_at : Bool → List ℕ → List ℕ → List ℕ
line_at is_copied copied found = if is_copied then copied else found
