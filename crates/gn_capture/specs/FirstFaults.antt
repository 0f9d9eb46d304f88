-- That a capture's fault is the first one.
use Rattle.std.specs.Prelude.{◌≡◌, ℕ, Bool, List, [], ◌∷◌, ◌++◌, ◌⊎◌, Ok, Err}
use Rattle.gn_rules.specs.declared.config.Own.{Own}
use Rattle.gn_text.specs.Lines.{fields_of}
use Rattle.gn_text.specs.declared.fault.CaptureFault.{CaptureFault}
use Rattle.gn_text.specs.declared.fault.CaptureRefusal.{CaptureRefusal}
use Rattle.gn_text.specs.declared.fault.CaptureRefusal.TheVariants.{Fault, NoMemory}
use Rattle.gn_rules.specs.declared.limits.Numbers.{Numbers}
use Rattle.gn_capture.specs.declared.line.Line.{Line}
use Rattle.gn_text.specs.Parsed.{parsed_of}
use Rattle.gn_capture.specs.CaptureLines.{line_in, links_after}
use Rattle.gn_capture.specs.Captures.{capture_header, has_all, lines_from}

-- how many links there are after these lines, where so many were made before them
abbrev pub links_made : {A : Type 0} → ℕ → List (ℕ × Line A) → ℕ
links_made links [] = links
links_made links (line ∷ more) = links_made (links_after links line.1) more

-- the fault is of a line before which each line is valid
pub record IsFirstFault (A : Type 0) (all : Bool) (links : ℕ) (lines : List (ℕ × List ℕ)) (fault : CaptureFault) : Type 0 where
  pub before : List (ℕ × List ℕ)
  pub parsed : List (ℕ × Line A)
  pub text : List ℕ
  pub after : List (ℕ × List ℕ)
  pub split : lines ≡ before ++ (fault.line, text) ∷ after
  pub valid : lines_from all links before ≡ Ok parsed
  pub spoils : line_in {A = A} all (links_made links parsed) (fields_of text) ≡ Err fault.cause

-- the first three lines are valid, and of those after them it is the first fault
abbrev pub IsBodyFault : (A : Type 0) → List ℕ → CaptureFault → Type 0
IsBodyFault A text fault =
    (header : (Numbers × Own) × List (ℕ × List ℕ)) × (capture_header text ≡ Ok header)
    × IsFirstFault A (has_all (parsed_of text)) 0 header.1 fault

-- a refusal's fault is the first of a capture: one of its first three lines, or the first after them
abbrev pub NamesFirst : (A : Type 0) → List ℕ → CaptureRefusal → Type 0
NamesFirst A text NoMemory = Unit {0}
NamesFirst A text (Fault fault) = (capture_header text ≡ Err fault) ⊎ IsBodyFault A text fault
