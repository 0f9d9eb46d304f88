-- What an audit answers, and what it writes.
use Rattle.std.specs.Prelude.{◌≡◌, ℕ, Bool, true, false, List, ◌++◌, length, codes, decimal, Option, IfSome, Result, Ok}
use Rattle.std.specs.Io.KnownBytes.{Appends, Keeps}
use Rattle.gn_rules.specs.declared.config.Config.{Config}
use Rattle.gn_rules.specs.declared.config.Own.{Own}
use Rattle.gn_rules.specs.declared.limits.Numbers.{Numbers}
use Rattle.gn_rules.specs.declared.receipt.Step.{Step}
use Rattle.gn_text.specs.Settings.{settings_of}
use Rattle.gn_text.specs.declared.fault.CaptureFault.{CaptureFault}
use Rattle.gn_stream.specs.Left.{finished_lines}
use Rattle.gn_stream.specs.Steps.{history_left}
use Rattle.gn_stream.specs.Unfinished.{lacks_end, whole_lines}
use Rattle.gn_capture.specs.Histories.{history_of}
use Rattle.gn_io.specs.Parts.{AppendsPart}
use Rattle.gn_replay.specs.declared.fault.ReplayFault.{ReplayFault}
use Rattle.gn_replay.specs.declared.fault.ReplayFault.TheVariants.{Write}
use Rattle.gn_rules.specs.declared.legality.Legality.{Legality}
use Rattle.gn_rules.specs.declared.legality.Legality.TheVariants.{Legal, WrongAt}
use Rattle.gn_rules.specs.Legality.{IsVerdict}
use Rattle.gn_replay.specs.declared.judged.CutJudged.{CutJudged}

-- the words of a verdict on a history of so many steps: how many they are, or the index of the first wrong one; and what ends them
abbrev pub verdict_ended : Legality → ℕ → List ℕ → List ℕ
verdict_ended Legal steps end = codes "legal " ++ decimal steps ++ end
verdict_ended (WrongAt i) steps end = codes "wrong " ++ decimal i ++ end

-- the line of a verdict
abbrev pub verdict_text : Legality → ℕ → List ℕ
verdict_text legality steps = verdict_ended legality steps (codes "\n")

-- the line of a verdict on a history that may have been cut, and that lacks the line `end` or has it
abbrev pub cut_verdict : Bool → Legality → ℕ → List ℕ
cut_verdict true legality steps = verdict_ended legality steps (codes " unfinished\n")
cut_verdict false legality steps = verdict_text legality steps

-- the text says a configuration and steps, the verdict is true of them, and this is its line
pub record IsAudited (A : Type 0) (text : List ℕ) (legality : Legality) (line : List ℕ) : Type 0 where
  pub settings : Config
  pub steps : List (Step A)
  pub parsed : history_of text ≡ Ok (settings_of settings, steps)
  pub agrees : IsVerdict settings steps legality
  pub printed : line ≡ verdict_text legality (length steps)

-- what a text says that may have been cut: what its whole lines say, and then `end`, where none of them is that
abbrev pub cut_history_of : {A : Type 0} → List ℕ → Result ((Numbers × Own) × List (Step A)) CaptureFault
cut_history_of text = history_left (finished_lines text)

-- a text that may have been cut says a configuration and steps, the verdict is true of them, and it is said truly whether the text
-- lacks the line `end`; where they are legal, there are so many
pub record IsCutFound (A : Type 0) (text : List ℕ) (judged : CutJudged) : Type 0 where
  pub settings : Config
  pub steps : List (Step A)
  pub parsed : cut_history_of text ≡ Ok (settings_of settings, steps)
  pub agrees : IsVerdict settings steps judged.legality
  pub counted : judged.legality ≡ Legal → judged.steps ≡ length steps
  pub lacks : judged.lacks_end ≡ lacks_end (whole_lines text)

-- the same, where the text may have been cut
pub record IsCutAudited (A : Type 0) (text : List ℕ) (legality : Legality) (line : List ℕ) : Type 0 where
  pub settings : Config
  pub steps : List (Step A)
  pub parsed : cut_history_of text ≡ Ok (settings_of settings, steps)
  pub agrees : IsVerdict settings steps legality
  pub printed : line ≡ cut_verdict (lacks_end (whole_lines text)) legality (length steps)

abbrev pub AppendsCutVerdict : (A : Type 0) → List ℕ → Legality → Option (List ℕ) → Option (List ℕ) → Type 0
AppendsCutVerdict A text legality old new = (line : List ℕ) × IsCutAudited A text legality line × Appends old new line

abbrev pub AppendsCutVerdictPart : (A : Type 0) → List ℕ → Option (List ℕ) → Option (List ℕ) → Type 0
AppendsCutVerdictPart A text old new =
    (legality : Legality) × (line : List ℕ) × IsCutAudited A text legality line × AppendsPart old new line

-- what was written where such an audit stopped
abbrev pub HasCutStopped : (A : Type 0) → ReplayFault → Option (List ℕ) → Option (List ℕ) → Option (List ℕ) → Type 0
HasCutStopped A Write rest old new = IfSome rest (λ text. AppendsCutVerdictPart A text old new)
HasCutStopped A fault rest old new = Keeps old new

-- known bytes grew by the line of this verdict on the history that a text says
abbrev pub AppendsVerdict : (A : Type 0) → List ℕ → Legality → Option (List ℕ) → Option (List ℕ) → Type 0
AppendsVerdict A text legality old new = (line : List ℕ) × IsAudited A text legality line × Appends old new line

-- known bytes grew by a prefix of the line of the verdict on the history that a text says
abbrev pub AppendsVerdictPart : (A : Type 0) → List ℕ → Option (List ℕ) → Option (List ℕ) → Type 0
AppendsVerdictPart A text old new =
    (legality : Legality) × (line : List ℕ) × IsAudited A text legality line × AppendsPart old new line

-- what was written where an audit stopped: a prefix of the line at Write, where a write failed or took nothing; at any
-- other fault nothing
abbrev pub HasStopped : (A : Type 0) → ReplayFault → Option (List ℕ) → Option (List ℕ) → Option (List ℕ) → Type 0
HasStopped A Write rest old new = IfSome rest (λ text. AppendsVerdictPart A text old new)
HasStopped A fault rest old new = Keeps old new
