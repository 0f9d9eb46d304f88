-- Bytes that were told, which only contracts see.
use Rattle.std.specs.Prelude.{ℕ, List, [], ◌∷◌, ◌++◌}
use Rattle.gn_trail.specs.declared.heard.Heard.{Heard, Nothing, Then'}

-- all of them, in order
abbrev pub bytes_heard : Heard → List ℕ
bytes_heard Nothing = []
bytes_heard (Then' marker before byte) = bytes_heard before ++ byte ∷ []
