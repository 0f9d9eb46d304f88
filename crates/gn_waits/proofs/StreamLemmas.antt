-- A read or a write that comes after some that failed.
use Rattle.std.proofs.Common.{◌++◌, ◌∙◌, List, ℕ, Option, None, Some, sym, ap}
use Rattle.std.specs.Io.KnownBytes.{Appends, Consumes, Keeps}

-- what was kept until a read gave the next bytes
pub kept_read : (a b c : Option (List ℕ)) (bytes : List ℕ) → Keeps a b → Consumes b c bytes → Consumes a c bytes
kept_read None b c bytes h k = tt
kept_read (Some xs) None c bytes h k = absurd h
kept_read (Some xs) (Some ys) None bytes h k = absurd k
kept_read (Some xs) (Some ys) (Some zs) bytes h k = sym h ∙ k

-- what was kept until a write took the next bytes
pub kept_written : (a b c : Option (List ℕ)) (bytes : List ℕ) → Keeps a b → Appends b c bytes → Appends a c bytes
kept_written None b c bytes h k = tt
kept_written (Some xs) None c bytes h k = absurd h
kept_written (Some xs) (Some ys) None bytes h k = absurd k
kept_written (Some xs) (Some ys) (Some zs) bytes h k = k ∙ ap (λ rest. rest ++ bytes) h
