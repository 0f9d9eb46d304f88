-- The times that comments of a history give its steps.
use Rattle.std.specs.Prelude.{ℕ, Bool, false, ◌-◌, ◌==◌, ◌&&◌, not, nat_le, if◌then◌else◌, List, [], ◌∷◌, codes, get_or, length, take, drop}
use Rattle.std.specs.List.{list_all}
use Rattle.std.specs.Char.{is_ascii_digit}
use Rattle.gn_text.specs.Lines.{is_skipped, is_word, lines_of}

-- seconds: one to twelve digits, which begin with 0 only where there is no other
abbrev pub is_seconds : List ℕ → Bool
is_seconds [] = false
is_seconds (digit ∷ []) = is_ascii_digit digit
is_seconds (first ∷ more) =
    is_ascii_digit first && not (first == 48) && nat_le (length more) 11 && list_all is_ascii_digit more

-- a dot, and six digits of a second's parts
abbrev pub is_parts : List ℕ → Bool
is_parts [] = false
is_parts (dot ∷ digits) = dot == 46 && length digits == 6 && list_all is_ascii_digit digits

-- a time: seconds and their parts
abbrev pub is_time : List ℕ → Bool
is_time text = is_seconds (take (length text - 7) text) && is_parts (drop (length text - 7) text)

-- the time below a line, where this was the time above it: what a comment `# t TIME` gives; none is empty
abbrev pub time_below : List ℕ → List ℕ → List ℕ
time_below last line = if is_word (take 4 line) (codes "# t ") && is_time (drop 4 line) then drop 4 line else last

-- the time of each line that isn't skipped, where this is the time above the first line
abbrev pub times_from : List ℕ → List (List ℕ) → List (List ℕ)
times_from last [] = []
times_from last (line ∷ more) =
    if is_skipped line then times_from (time_below last line) more else last ∷ times_from last more

-- the times of a history's steps: its first three lines are none
abbrev pub step_times : List ℕ → List (List ℕ)
step_times text = drop 3 (times_from [] (lines_of text))

-- where a step stands: its index, which counts from 0, and its time; none is empty
pub record Place : Type 0 where
  pub index : ℕ
  pub time : List ℕ

-- the place of the step of an index
abbrev pub place_of : List (List ℕ) → ℕ → Place
place_of times index = record { index = index; time = get_or times index [] }
