-- What an explained audit answers, and what it writes.
use Rattle.std.specs.Prelude.{◌≡◌, ◌+◌, ℕ, List, [], ◌++◌, length, reverse, take, codes, decimal, Option, Some, IfSome, Result, Ok, Err}
use Rattle.std.specs.Io.KnownBytes.{Appends, Keeps}
use Rattle.std.specs.List.{slice_get}
use Rattle.gn_rules.specs.declared.config.Config.{Config}
use Rattle.gn_rules.specs.declared.legality.Legality.{Legality}
use Rattle.gn_rules.specs.declared.legality.Legality.TheVariants.{Legal, WrongAt}
use Rattle.gn_rules.specs.declared.receipt.Step.{Step}
use Rattle.gn_rules.specs.declared.refusal.Refusal.{Refusal}
use Rattle.gn_rules.specs.declared.reply.Reply.{Reply}
use Rattle.gn_rules.specs.Answer.{answer}
use Rattle.gn_rules.specs.Legality.{IsVerdict}
use Rattle.gn_text.specs.Lines.{fields_of}
use Rattle.gn_text.specs.Parsed.{parsed_of}
use Rattle.gn_text.specs.Refusals.{refusal_text}
use Rattle.gn_text.specs.Settings.{settings_of}
use Rattle.gn_text.specs.Steps.{reply_text}
use Rattle.gn_capture.specs.Histories.{history_of}
use Rattle.gn_capture.specs.Steps.{step_parsed}
use Rattle.gn_io.specs.Parts.{AppendsPart}
use Rattle.gn_replay.specs.declared.fault.ReplayFault.{ReplayFault}
use Rattle.gn_replay.specs.declared.fault.ReplayFault.TheVariants.{Write}
use Rattle.gn_replay.specs.Audits.{verdict_text}

-- how many lines stand before the steps: the title, the numbers and the servent
abbrev pub lines_before : ℕ
lines_before = 3

-- the line of the step at an index, with its number in the text; skipped lines have numbers, and no steps
abbrev pub step_line_at : List ℕ → ℕ → Option (ℕ × List ℕ)
step_line_at text i = slice_get (parsed_of text) (lines_before + i)

-- the line of an answer: a reply as it stands after the = of a step, or a refusal
abbrev pub answer_line : {A : Type 0} → Result (Reply A) Refusal → List ℕ
answer_line (Ok reply) = reply_text reply ++ codes "\n"
answer_line (Err refusal) = refusal_text refusal

-- the lines that explain a wrong step: its numbered line in the history, and what the rules answer there
abbrev pub explanation_text : {A : Type 0} → ℕ × List ℕ → Result (Reply A) Refusal → List ℕ
explanation_text line rules =
    codes "line " ++ decimal line.0 ++ codes ": " ++ line.1 ++ codes "\nrules: " ++ answer_line rules

-- the step at the index stands in this line of the text, which says it, and this is that line and what the rules answer
-- to the step's event after the steps before it
pub record IsExplained {A : Type 0} (s : Config) (steps : List (Step A)) (text : List ℕ) (i : ℕ) (explanation : List ℕ)
    : Type 0 where
  pub step : Step A
  pub line : ℕ × List ℕ
  pub at : slice_get steps i ≡ Some step
  pub stands : step_line_at text i ≡ Some line
  pub says : step_parsed (fields_of line.1) ≡ Some step
  pub explained : explanation ≡ explanation_text line (answer s (reverse (take i steps)) step.event)

-- what stands after the verdict: nothing at a legal history, the explanation of the first wrong step of another
abbrev pub Explains : {A : Type 0} → Config → List (Step A) → List ℕ → Legality → List ℕ → Type 0
Explains s steps text Legal explanation = explanation ≡ []
Explains s steps text (WrongAt i) explanation = IsExplained s steps text i explanation

-- the text says a configuration and steps, the verdict is true of them, and this is its line with what explains it
pub record IsAuditExplained (A : Type 0) (text : List ℕ) (legality : Legality) (lines : List ℕ) : Type 0 where
  pub settings : Config
  pub steps : List (Step A)
  pub explanation : List ℕ
  pub parsed : history_of text ≡ Ok (settings_of settings, steps)
  pub agrees : IsVerdict settings steps legality
  pub explains : Explains settings steps text legality explanation
  pub printed : lines ≡ verdict_text legality (length steps) ++ explanation

-- known bytes grew by the verdict on the history that a text says, with what explains it
abbrev pub AppendsExplained : (A : Type 0) → List ℕ → Legality → Option (List ℕ) → Option (List ℕ) → Type 0
AppendsExplained A text legality old new =
    (lines : List ℕ) × IsAuditExplained A text legality lines × Appends old new lines

-- known bytes grew by a prefix of the verdict on the history that a text says, with what explains it
abbrev pub AppendsExplainedPart : (A : Type 0) → List ℕ → Option (List ℕ) → Option (List ℕ) → Type 0
AppendsExplainedPart A text old new =
    (legality : Legality) × (lines : List ℕ) × IsAuditExplained A text legality lines × AppendsPart old new lines

-- what was written where an explained audit stopped: a prefix of its lines at Write, where a write failed or took
-- nothing; at any other fault nothing
abbrev pub HasExplainedStopped : (A : Type 0) → ReplayFault → Option (List ℕ) → Option (List ℕ) → Option (List ℕ)
    → Type 0
HasExplainedStopped A Write rest old new = IfSome rest (λ text. AppendsExplainedPart A text old new)
HasExplainedStopped A fault rest old new = Keeps old new
