-- A text in lines, and a line in fields.
use Rattle.std.specs.Prelude.{◌-◌, ℕ, Bool, true, ◌==◌, nat_eq, if◌then◌else◌, List, [], ◌∷◌, length, take, slice_index}
use Rattle.std.specs.List.{slice_split}
use lib.Pointwise.{pointwise}

-- the text without a line feed at its end
abbrev pub without_last_feed : List ℕ → List ℕ
without_last_feed text = if slice_index text (length text - 1) == 10 then take (length text - 1) text else text

-- its lines, which line feeds end; the last one's may be missing
abbrev pub lines_of : List ℕ → List (List ℕ)
lines_of text = if length text == 0 then [] else slice_split (λ b. b == 10) (without_last_feed text)

-- the fields of a line, which single spaces separate
abbrev pub fields_of : List ℕ → List (List ℕ)
fields_of line = slice_split (λ b. b == 32) line

-- a line that is skipped: an empty one, or one that begins with #
abbrev pub is_skipped : List ℕ → Bool
is_skipped [] = true
is_skipped (b ∷ bs) = b == 35

-- a field is this very word
abbrev pub is_word : List ℕ → List ℕ → Bool
is_word field word = pointwise nat_eq field word
