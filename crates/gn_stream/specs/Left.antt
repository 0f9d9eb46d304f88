-- What is left of a text that is read a line at a time.
use Rattle.std.specs.Prelude.{◌≡◌, ◌≤◌, ◌<◌, ◌+◌, ◌^◌, ◌⊎◌, ℕ, Bool, false, List, [], ◌∷◌, ◌++◌, length, All}
use Rattle.gn_text.specs.Lines.{lines_of}
use Rattle.gn_text.specs.Parsed.{Numbered, numbered_from}
use Rattle.gn_stream.specs.Unfinished.{cut_line, finished, lacks_end, whole_lines}

-- the most bytes of a line
abbrev pub line_limit : ℕ
line_limit = 67108864

-- the lines that are left, the number of the first of them, what stands behind the last of them that is no line, and whether `end` was
-- added to the lines of the text
pub record Left : Type 0 where
  pub lines : List (List ℕ)
  pub first : ℕ
  pub cut : List ℕ
  pub lacks : Bool

-- the lines of a text
abbrev pub all_lines : List ℕ → Left
all_lines text = record { lines = lines_of text; first = 1; cut = []; lacks = false }

-- the whole lines of a text, and then `end`, where none of them is that
abbrev pub finished_lines : List ℕ → Left
finished_lines text =
    record { lines = finished (whole_lines text); first = 1; cut = cut_line text; lacks = lacks_end (whole_lines text) }

-- those that aren't skipped
abbrev pub numbered_left : Left → Numbered
numbered_left left = record { lines = numbered_from left.first left.lines; after = length left.lines + left.first }

-- none of these lines is longer than a line may be
abbrev pub AreShort : List (List ℕ) → Type 0
AreShort lines = All (λ line. length line ≤ line_limit) lines

-- one of the lines that are left, or what stands behind them, is longer than a line may be; or there are more than a number of
-- 64 bits counts
abbrev pub IsTooLong : Left → Type 0
IsTooLong left =
    ((before : List (List ℕ)) × (line : List ℕ) × (after : List (List ℕ)) × (left.lines ≡ before ++ line ∷ after) × (line_limit < length line))
    ⊎ (line_limit < length left.cut) ⊎ (2 ^ 64 ≤ length left.lines + left.first)

-- what stands behind the lines stays, or is gone
abbrev pub IsCutOf : Left → Left → Type 0
IsCutOf old new = (new.cut ≡ old.cut) ⊎ (new.cut ≡ [])

-- some lines are gone, none of them too long
pub record AreGone (old new : Left) : Type 0 where
  pub gone : List (List ℕ)
  pub lines : old.lines ≡ gone ++ new.lines
  pub first : new.first ≡ length gone + old.first
  pub short : AreShort gone
  pub cut : IsCutOf old new
  pub lacks : new.lacks ≡ old.lacks

-- the first line is gone; it had this number
pub record IsFirst (number : ℕ) (line : List ℕ) (old new : Left) : Type 0 where
  pub lines : old.lines ≡ line ∷ new.lines
  pub counted : number ≡ old.first
  pub first : new.first ≡ old.first + 1
  pub short : length line ≤ line_limit
  pub cut : IsCutOf old new
  pub lacks : new.lacks ≡ old.lacks

-- the first line that isn't skipped is gone, with those before it; it had this number
pub record IsFirstNumbered (number : ℕ) (line : List ℕ) (old new : Left) : Type 0 where
  pub gone : AreGone old new
  pub lines : (numbered_left old).lines ≡ (number, line) ∷ (numbered_left new).lines
  pub least : old.first ≤ number
  pub first : new.first ≡ number + 1

-- all lines are gone, and each of them was skipped
pub record AreSkipped (old new : Left) : Type 0 where
  pub gone : AreGone old new
  pub lines : (numbered_left old).lines ≡ []
  pub none : new.lines ≡ []
