-- The text of a history, and what a text says.
use Rattle.std.specs.Prelude.{◌≡◌, ℕ, if◌then◌else◌, List, [], ◌∷◌, ◌++◌, codes, Option, Some, None, Result, Ok, Err}
use Rattle.std.specs.List.{flat_map}
use Rattle.gn_rules.specs.declared.config.Config.{Config}
use Rattle.gn_rules.specs.declared.config.Own.{Own}
use Rattle.gn_rules.specs.declared.receipt.Step.{Step}
use Rattle.gn_text.specs.Lines.{fields_of, is_word}
use Rattle.gn_numbers.specs.declared.causes.Cause.TheVariants as cause
use Rattle.gn_text.specs.declared.fault.CaptureFault.{CaptureFault}
use Rattle.gn_text.specs.declared.fault.CaptureRefusal.{CaptureRefusal}
use Rattle.gn_text.specs.Faults.{IsRefused, fault_at, numbered_at, ◌>>=◌}
use Rattle.gn_numbers.specs.declared.titles.Text.TheVariants.{History}
use Rattle.gn_text.specs.Header.{header_of, header_text}
use Rattle.gn_text.specs.Parsed.{Numbered, parsed_of, line_after}
use Rattle.gn_rules.specs.declared.limits.Numbers.{Numbers}
use Rattle.gn_text.specs.Settings.{settings_of}
use Rattle.gn_text.specs.Steps.{step_text}
use Rattle.gn_capture.specs.Steps.{step_parsed}

-- a value that was read, changed
abbrev pub map_result : {X Y E : Type 0} → (X → Y) → Result X E → Result Y E
map_result f (Ok x) = Ok (f x)
map_result f (Err e) = Err e

-- the line that it ends with
abbrev pub ending : List ℕ
ending = codes "end"

-- the lines of steps
abbrev pub steps_text : {A : Type 0} → List (Step A) → List ℕ
steps_text steps = flat_map step_text steps

-- the text of a history: the three lines of its configuration, a line for each step, and the line `end`
abbrev pub history_text : {A : Type 0} → Config → List (Step A) → List ℕ
history_text s steps = header_text History s ++ steps_text steps ++ codes "end\n"

-- what a line says: a step, or nothing where it is the line `end`
abbrev pub line_parsed : {A : Type 0} → ℕ × List ℕ → Result (Option (Step A)) CaptureFault
line_parsed line = if is_word line.1 ending then Ok None else map_result Some (numbered_at line.0 cause.Field (step_parsed (fields_of line.1)))

-- nothing stands after the line `end`
abbrev pub ended : {A : Type 0} → List (ℕ × List ℕ) → Result (List (Step A)) CaptureFault
ended [] = Ok []
ended (line ∷ more) = Err (fault_at line.0 cause.End)

-- the steps after a line, which stands first where it is one
abbrev pub steps_after : {A : Type 0} → Option (Step A) → List (ℕ × List ℕ) → Result (List (Step A)) CaptureFault → Result (List (Step A)) CaptureFault
steps_after None more steps = ended more
steps_after (Some step) more steps = map_result (λ xs. step ∷ xs) steps

-- the steps that lines say, one each, up to the line `end`; where that is missing, it is at fault after the last line
abbrev pub steps_from : {A : Type 0} → ℕ → List (ℕ × List ℕ) → Result (List (Step A)) CaptureFault
steps_from after [] = Err (fault_at after cause.End)
steps_from after (line ∷ more) = do
  found ← line_parsed line
  steps_after found more (steps_from after more)

-- the steps that are left of a history, or the first fault of what is left
abbrev pub steps_left : {A : Type 0} → Numbered → Result (List (Step A)) CaptureFault
steps_left left = steps_from left.after left.lines

-- what is found where steps are left: the first of them, and then the others are left; nothing where none is left; or
-- what is left is refused
abbrev pub IsNextOf : {A : Type 0} → Result (Option (Step A)) CaptureRefusal → Result (List (Step A)) CaptureFault → Result (List (Step A)) CaptureFault → Type 0
IsNextOf (Ok (Some step)) old new = old ≡ map_result (λ more. step ∷ more) new
IsNextOf (Ok None) old new = old ≡ Ok []
IsNextOf (Err refusal) old new = IsRefused refusal old

-- what a text says: the settings and the steps, or its first fault
abbrev pub history_of : {A : Type 0} → List ℕ → Result ((Numbers × Own) × List (Step A)) CaptureFault
history_of text = do
  header ← header_of History (line_after text) (parsed_of text)
  map_result (λ steps. (header.0, steps)) (steps_from (line_after text) header.1)

-- a history that was read
abbrev pub history_seen : {A R : Type 0} → (R → List (Step A)) → Config × R → (Numbers × Own) × List (Step A)
history_seen items history = (settings_of history.0, items history.1)
