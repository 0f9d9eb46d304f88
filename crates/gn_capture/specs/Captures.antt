-- What a capture says.
use Rattle.std.specs.Prelude.{ℕ, Bool, false, if◌then◌else◌, List, [], ◌∷◌, ◌++◌, codes, Result, Ok}
use Rattle.gn_rules.specs.declared.config.Own.{Own}
use Rattle.gn_numbers.specs.declared.version.Version.TheVariants.{Third}
use Rattle.gn_text.specs.Lines.{fields_of, is_word}
use Rattle.gn_text.specs.declared.fault.CaptureFault.{CaptureFault}
use Rattle.gn_text.specs.Faults.{◌>>=◌}
use Rattle.gn_numbers.specs.declared.titles.Text.TheVariants as text
use Rattle.gn_text.specs.Header.{config_from, header_of}
use Rattle.gn_text.specs.Parsed.{line_after, parsed_of}
use Rattle.gn_rules.specs.declared.limits.Numbers.{Numbers}
use Rattle.gn_text.specs.Settings.{settings_of}
use Rattle.gn_capture.specs.declared.capture.Capture.{Capture}
use Rattle.gn_capture.specs.declared.line.Line.{Line}
use Rattle.gn_capture.specs.CaptureLines.{line_in, links_after}
use Rattle.gn_capture.specs.Outcomes.{numbered}

-- the title of version 5, which has the numbers of version 3 and the line `route all`; there is no version 4
abbrev pub fifth_title : List ℕ
fifth_title = codes "gnutella-capture 5"

-- whether a capture has the line `route all`: its first line is the title of version 5
abbrev pub has_all : List (ℕ × List ℕ) → Bool
has_all [] = false
has_all (title ∷ more) = is_word title.1 fifth_title

-- what the lines say, each with its number, in a version with `route all` or without it, where so many links were made
-- before them; or the first line that has a fault, and its first cause
abbrev pub lines_from : {A : Type 0} → Bool → ℕ → List (ℕ × List ℕ) → Result (List (ℕ × Line A)) CaptureFault
lines_from all links [] = Ok []
lines_from all links ((n, text) ∷ more) = do
  line ← numbered n (line_in all links (fields_of text))
  others ← lines_from all (links_after links line) more
  Ok ((n, line) ∷ others)

-- what a capture says: the numbers of its configuration, the own servent, and its lines
pub record Parsed (A : Type 0) : Type 0 where
  pub numbers : Numbers
  pub own : Own
  pub lines : List (ℕ × Line A)

-- what the first three lines of a capture say, whose first one is the title of version 5 or of an earlier one
abbrev pub header_from : ℕ → List (ℕ × List ℕ) → Result ((Numbers × Own) × List (ℕ × List ℕ)) CaptureFault
header_from after [] = header_of text.Capture after []
header_from after (title ∷ more) =
    if is_word title.1 fifth_title then config_from Third after more else header_of text.Capture after (title ∷ more)

-- the numbers and the own servent that a capture's first three lines say, and the lines after them
abbrev pub capture_header : List ℕ → Result ((Numbers × Own) × List (ℕ × List ℕ)) CaptureFault
capture_header input = header_from (line_after input) (parsed_of input)

-- what a capture of this header says, with `route all` or without it
abbrev pub parsed_by : {A : Type 0} → Bool → (Numbers × Own) × List (ℕ × List ℕ) → Result (Parsed A) CaptureFault
parsed_by all header = do
  lines ← lines_from all 0 header.1
  Ok (record { numbers = header.0.0; own = header.0.1; lines = lines })

-- a capture says what its first three lines say, and what the lines after them say; its fault is the first one
abbrev pub capture_of : {A : Type 0} → List ℕ → Result (Parsed A) CaptureFault
capture_of text = do
  header ← capture_header text
  parsed_by (has_all (parsed_of text)) header

-- a capture that was read, as what it says
abbrev pub capture_seen : {A : Type 0} → Capture A → Parsed A
capture_seen capture =
    record { numbers = (settings_of capture.config).0; own = capture.config.own; lines = capture.lines.items }

-- these lines, before those that are read
abbrev pub with_first : {X E : Type 0} → List X → Result (List X) E → Result (List X) E
with_first head read = read >>= λ others. Ok (head ++ others)
