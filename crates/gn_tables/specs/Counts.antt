-- How many of something each connection has.
use Rattle.std.specs.Prelude.{◌≡◌, ℕ, ◌==◌, nat_eq, if◌then◌else◌, List, Option, Some, None, unwrap_or}
use Rattle.std.specs.Map.{lookup}

-- a count that isn't 0
abbrev pub unless_zero : ℕ → Option ℕ
unless_zero n = if n == 0 then None else Some n

-- the count that a table has of a connection; where it has none, it is 0
abbrev pub count_at : ℕ → List (ℕ × ℕ) → ℕ
count_at c counts = unwrap_or (lookup (nat_eq c) counts) 0

-- a table whose count of c is another, where c isn't there when it is 0, and whose other counts are the same
abbrev pub IsRecounted : ℕ → ℕ → List (ℕ × ℕ) → List (ℕ × ℕ) → Type 0
IsRecounted c n before after =
    (d : ℕ) → lookup (nat_eq d) after ≡ (if d == c then unless_zero n else lookup (nat_eq d) before)
