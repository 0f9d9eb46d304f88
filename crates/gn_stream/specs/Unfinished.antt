-- A history's text that may have been cut, as it is read: its whole lines, and then `end`.
use Rattle.std.specs.Prelude.{◌==◌, if◌then◌else◌, ℕ, Bool, true, false, List, [], ◌∷◌}
use Rattle.std.specs.List.{slice_split}
use Rattle.gn_text.specs.Lines.{is_word, lines_of}
use Rattle.gn_capture.specs.Histories.{ending}
use Rattle.gn_stream.specs.declared.ending.Ending.{Ending}
use Rattle.gn_stream.specs.declared.ending.Ending.TheVariants.{Own, Due, Stands, Added}

-- all parts but the last
abbrev pub but_last : List (List ℕ) → List (List ℕ)
but_last [] = []
but_last (part ∷ []) = []
but_last (part ∷ next ∷ more) = part ∷ but_last (next ∷ more)

-- the last part
abbrev pub last_part : List (List ℕ) → List ℕ
last_part [] = []
last_part (part ∷ []) = part
last_part (part ∷ next ∷ more) = last_part (next ∷ more)

-- the lines of a text that line feeds end
abbrev pub whole_lines : List ℕ → List (List ℕ)
whole_lines text = but_last (slice_split (λ b. b == 10) text)

-- what stands after its last line feed
abbrev pub cut_line : List ℕ → List ℕ
cut_line text = last_part (slice_split (λ b. b == 10) text)

-- lines, and after them `end` where none of them is that
abbrev pub finished : List (List ℕ) → List (List ℕ)
finished [] = ending ∷ []
finished (line ∷ more) = line ∷ (if is_word line ending then more else finished more)

-- whether none of these lines is `end`
abbrev pub lacks_end : List (List ℕ) → Bool
lacks_end [] = true
lacks_end (line ∷ more) = if is_word line ending then false else lacks_end more

-- the lines that are read of what is left of a text: all of them; or the whole ones, with `end` where it is due
abbrev pub lines_read : Ending → List ℕ → List (List ℕ)
lines_read Own text = lines_of text
lines_read Due text = finished (whole_lines text)
lines_read Stands text = whole_lines text
lines_read Added text = whole_lines text

-- what is left behind them
abbrev pub left_out : Ending → List ℕ → List ℕ
left_out Own text = []
left_out Due text = cut_line text
left_out Stands text = cut_line text
left_out Added text = cut_line text

-- whether `end` is added to them
abbrev pub is_lacking : Ending → List ℕ → Bool
is_lacking Own text = false
is_lacking Due text = lacks_end (whole_lines text)
is_lacking Stands text = false
is_lacking Added text = true

-- whether it was added
abbrev pub is_added : Ending → Bool
is_added Own = false
is_added Due = false
is_added Stands = false
is_added Added = true

-- what is due after a line
abbrev pub ending_after : Ending → List ℕ → Ending
ending_after Due line = if is_word line ending then Stands else Due
ending_after ends line = ends
