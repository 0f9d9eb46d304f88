-- A text without its comments.
use Rattle.std.specs.Prelude.{◌==◌, ◌∷◌, [], ℕ, Bool, true, false, if◌then◌else◌, List}

-- where a byte of a text stands: a line begins with it, or it goes on, or a comment does
pub data Place : Type 0 where
  start : Place
  line : Place
  comment : Place

-- whether a byte there is one of a comment, which begins with `#`
abbrev pub is_comment : Place → ℕ → Bool
is_comment start byte = byte == 35
is_comment line byte = false
is_comment comment byte = true

-- where the byte behind it stands
abbrev pub behind : Place → ℕ → Place
behind place byte = if byte == 10 then start else if is_comment place byte then comment else line

-- where the byte behind these stands
abbrev pub place_behind : Place → List ℕ → Place
place_behind place [] = place
place_behind place (byte ∷ bytes) = place_behind (behind place byte) bytes

-- these bytes without those of comments
abbrev pub bare : Place → List ℕ → List ℕ
bare place [] = []
bare place (byte ∷ bytes) =
    let rest = bare (behind place byte) bytes in
    if is_comment place byte then rest else byte ∷ rest
