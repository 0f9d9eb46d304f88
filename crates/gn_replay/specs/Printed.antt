-- What is printed of a replay, by its form.
use Rattle.std.specs.Prelude.{ℕ, List, [], codes, Option}
use Rattle.gn_rules.specs.declared.config.Config.{Config}
use Rattle.gn_text.specs.Header.{header_text}
use Rattle.gn_numbers.specs.declared.titles.Text.TheVariants.{History}
use Rattle.gn_replay.specs.declared.fault.ReplayFault.{ReplayFault}
use Rattle.gn_replay.specs.declared.form.Form.{Form}
use Rattle.gn_replay.specs.declared.form.Form.TheVariants.{Steps, Whole}
use Rattle.gn_replay.specs.ReplayHistory.{AppendsHistory, HasHistoryStopped}
use Rattle.gn_replay.specs.Replays.{AppendsReplay, HasStopped}

-- what stands before all lines
abbrev pub begun_of : Form → Config → List ℕ
begun_of Whole s = []
begun_of Steps s = header_text History s

-- what stands after all lines
abbrev pub ending_of : Form → List ℕ
ending_of Whole = []
ending_of Steps = codes "end\n"

-- known bytes grew by the replay text of the input, or by its history text
abbrev pub AppendsPrinted : (A : Type 0) → Form → List ℕ → Option (List ℕ) → Option (List ℕ) → Type 0
AppendsPrinted A Whole input old new = AppendsReplay A input old new
AppendsPrinted A Steps input old new = AppendsHistory A input old new

-- what was written of it where a replay stopped
abbrev pub HasPrintedStopped : (A : Type 0) → Form → ReplayFault → Option (List ℕ) → Option (List ℕ) → Option (List ℕ)
    → Type 0
HasPrintedStopped A Whole fault rest old new = HasStopped A fault rest old new
HasPrintedStopped A Steps fault rest old new = HasHistoryStopped A fault rest old new
