-- What the lines of a history come to, read one after another.
use Rattle.std.specs.Prelude.{◌≡◌, ◌≤◌, ◌+◌, ℕ, List, [], ◌∷◌, Option, Some, None, Result, Ok}
use Rattle.gn_rules.specs.declared.config.Config.{Config}
use Rattle.gn_rules.specs.declared.config.Own.{Own}
use Rattle.gn_rules.specs.declared.limits.Numbers.{Numbers}
use Rattle.gn_rules.specs.declared.receipt.Step.{Step}
use Rattle.gn_text.specs.declared.fault.CaptureFault.{CaptureFault}
use Rattle.gn_text.specs.declared.fault.CaptureRefusal.{CaptureRefusal}
use Rattle.gn_numbers.specs.declared.titles.Text.TheVariants.{History}
use Rattle.gn_text.specs.Faults.{IsRefused, ◌>>=◌}
use Rattle.gn_text.specs.Header.{header_of}
use Rattle.gn_text.specs.Settings.{settings_of}
use Rattle.gn_capture.specs.Histories.{ended, map_result, steps_from, steps_left}
use Rattle.gn_text.specs.Parsed.{Numbered}
use Rattle.gn_stream.specs.declared.fault.StreamFault.{StreamFault}
use Rattle.gn_stream.specs.Left.{AreGone, Left, numbered_left}
use Rattle.gn_stream.specs.Reading.{IsReadOf, Place}

-- what the lines of a part of a header say: the settings, and the lines after them
abbrev pub Says : Type 0
Says = ℕ → List (ℕ × List ℕ) → Result ((Numbers × Own) × List (ℕ × List ℕ)) CaptureFault

-- the lines that say this configuration are gone
pub record AreSaid (says : Says) (config : Config) (old new : Left) : Type 0 where
  pub gone : AreGone old new
  pub said : says (numbered_left old).after (numbered_left old).lines ≡ Ok (settings_of config, (numbered_left new).lines)

-- lines that are to say a configuration are refused
abbrev pub AreUnsaid : Says → CaptureRefusal → Left → Type 0
AreUnsaid says refusal left = IsRefused refusal (says (numbered_left left).after (numbered_left left).lines)

-- the lines of a part of a header were read
abbrev pub IsSaid : Says → Result Config StreamFault → Place → Place → Type 0
IsSaid says result old new = IsReadOf (AreSaid says) (AreUnsaid says) result old new

-- the header of a history was read
abbrev pub IsHeaderRead : Result Config StreamFault → Place → Place → Type 0
IsHeaderRead result old new = IsSaid (header_of History) result old new

-- the line of a step is gone, with its number; or the line `end` is, and nothing stands after it
pub record IsStep {A : Type 0} (line : List ℕ) (number : ℕ) (step : Step A) (old new : Left) : Type 0 where
  pub gone : AreGone old new
  pub stands : (numbered_left old).lines ≡ (number, line) ∷ (numbered_left new).lines
  pub says : steps_left (numbered_left old) ≡ map_result (λ steps. step ∷ steps) (steps_left (numbered_left new))
  pub least : old.first ≤ number
  pub first : new.first ≡ number + 1

-- no line is left, and these say what an end is
pub record IsEnding (A : Type 0) (says : Numbered → Result (List (Step A)) CaptureFault) (old new : Left) : Type 0 where
  pub gone : AreGone old new
  pub none : new.lines ≡ []
  pub said : says (numbered_left old) ≡ Ok []

abbrev pub IsStepOrEnd : {A : Type 0} → List ℕ → Option (ℕ × Step A) → Left → Left → Type 0
IsStepOrEnd {A} line (Some found) old new = IsStep line found.0 found.1 old new
IsStepOrEnd {A} line None old new = IsEnding A steps_left old new

-- nothing is left after the line `end`
abbrev pub IsNone : (A : Type 0) → Left → Left → Type 0
IsNone A old new = IsEnding A (λ left. ended left.lines) old new

-- steps are refused, or what stands after the line `end` is
abbrev pub AreRefused : (A : Type 0) → CaptureRefusal → Left → Type 0
AreRefused A refusal left = IsRefused refusal (steps_left {A = A} (numbered_left left))

-- the next step was read
abbrev pub IsStepRead : {A : Type 0} → Result (Option (ℕ × Step A)) StreamFault → Place → Place → Type 0
IsStepRead {A} result old new = IsReadOf (IsStepOrEnd new.reading.line) (AreRefused A) result old new

abbrev pub IsEndRefused : (A : Type 0) → CaptureRefusal → Left → Type 0
IsEndRefused A refusal left = IsRefused refusal (ended {A = A} (numbered_left left).lines)

-- what stands after the line `end` was read
abbrev pub IsEndRead : (A : Type 0) → Result (Unit {0}) StreamFault → Place → Place → Type 0
IsEndRead A result old new = IsReadOf (λ _. IsNone A) (IsEndRefused A) result old new

-- what the lines that are left say, where they are those of a whole text
abbrev pub history_left : {A : Type 0} → Left → Result ((Numbers × Own) × List (Step A)) CaptureFault
history_left left = do
  header ← header_of History (numbered_left left).after (numbered_left left).lines
  map_result (λ steps. (header.0, steps)) (steps_from (numbered_left left).after header.1)
