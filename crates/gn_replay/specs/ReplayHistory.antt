-- The history of the router that a capture was replayed on, and what is written of it.
use Rattle.std.specs.Prelude.{◌≡◌, ◌≤◌, ◌⊎◌, List, [], ℕ, length, reverse, Option, IfSome, Result, Ok, Err}
use Rattle.std.specs.Io.KnownBytes.{Appends, Keeps}
use Rattle.gn_rules.specs.declared.config.Config.{Config}
use Rattle.gn_text.specs.declared.fault.CaptureFault.{CaptureFault}
use Rattle.gn_text.specs.Settings.{settings_of}
use Rattle.gn_capture.specs.Captures.{Parsed, capture_of}
use Rattle.gn_capture.specs.Histories.{history_text}
use Rattle.gn_io.specs.Input.{input_limit}
use Rattle.gn_io.specs.Parts.{AppendsPart}
use Rattle.gn_replay.specs.declared.fault.ReplayFault.{ReplayFault}
use Rattle.gn_replay.specs.declared.fault.ReplayFault.TheVariants.{NoMemory, Write}
use Rattle.gn_replay.specs.ReplayText.{capture_plays}

-- the history text of what was read of an input: none where that is no capture, else the configuration that it states,
-- and the steps that its lines make, the oldest first
abbrev pub IsHistoryOf : (A : Type 0) → Result (Parsed A) CaptureFault → List ℕ → Type 0
IsHistoryOf A (Err fault) text = text ≡ []
IsHistoryOf A (Ok parsed) text =
    (s : Config) × (settings_of s ≡ (parsed.numbers, parsed.own))
    × (text ≡ history_text s (reverse (capture_plays s parsed.lines).past))

-- the history text of an input
abbrev pub IsHistoryText : (A : Type 0) → List ℕ → List ℕ → Type 0
IsHistoryText A input text = IsHistoryOf A (capture_of {A = A} input) text

-- known bytes grew by the history text of the input
abbrev pub AppendsHistory : (A : Type 0) → List ℕ → Option (List ℕ) → Option (List ℕ) → Type 0
AppendsHistory A input old new = (text : List ℕ) × IsHistoryText A input text × Appends old new text

-- known bytes grew by a prefix of the history text of the input
abbrev pub AppendsHistoryPart : (A : Type 0) → List ℕ → Option (List ℕ) → Option (List ℕ) → Type 0
AppendsHistoryPart A input old new = (text : List ℕ) × IsHistoryText A input text × AppendsPart old new text

-- what was written where it stopped: at Write a prefix of the history text, at NoMemory nothing or that of an input within
-- the limit, at any other fault nothing
abbrev pub HasHistoryStopped : (A : Type 0) → ReplayFault → Option (List ℕ) → Option (List ℕ) → Option (List ℕ) → Type 0
HasHistoryStopped A Write rest old new = IfSome rest (λ input. AppendsHistoryPart A input old new)
HasHistoryStopped A NoMemory rest old new =
    IfSome rest (λ input. Keeps old new ⊎ ((length input ≤ input_limit) × AppendsHistoryPart A input old new))
HasHistoryStopped A fault rest old new = Keeps old new
