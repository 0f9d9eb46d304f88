-- The lines of a text that aren't skipped.
use Rattle.std.specs.Prelude.{◌+◌, ℕ, if◌then◌else◌, List, [], ◌∷◌, length}
use Rattle.std.proofs.Common.{Bor}
use Rattle.gn_text.specs.Lines.{is_skipped, lines_of}

-- a numbered line, and what it refers to
abbrev pub line_seen : ℕ × Bor (List ℕ) → ℕ × List ℕ
line_seen line = (line.0, line.1.now)

-- of the lines from number n on, those that aren't skipped, each with its number
abbrev pub numbered_from : ℕ → List (List ℕ) → List (ℕ × List ℕ)
numbered_from n [] = []
numbered_from n (line ∷ more) = if is_skipped line then numbered_from (n + 1) more else (n, line) ∷ numbered_from (n + 1) more

-- the lines that aren't skipped, each with its number, and the number of the line after the last one
pub record Numbered : Type 0 where
  pub lines : List (ℕ × List ℕ)
  pub after : ℕ

-- those of a text whose first line has number n
abbrev pub numbered_text : ℕ → List ℕ → Numbered
numbered_text n text = record { lines = numbered_from n (lines_of text); after = length (lines_of text) + n }

-- the lines of a text that aren't skipped, each with its number, counted from 1 with the skipped ones
abbrev pub parsed_of : List ℕ → List (ℕ × List ℕ)
parsed_of text = numbered_from 1 (lines_of text)

-- the number of the line after the last one
abbrev pub line_after : List ℕ → ℕ
line_after text = length (lines_of text) + 1
