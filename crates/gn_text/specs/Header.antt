-- The three lines that a text begins with.
use Rattle.std.specs.Prelude.{ℕ, List, [], ◌∷◌, ◌++◌, codes, Result, Ok, Err}
use Rattle.gn_rules.specs.declared.config.Config.{Config}
use Rattle.gn_rules.specs.declared.config.Own.{Own}
use Rattle.gn_text.specs.Lines.{fields_of}
use Rattle.gn_numbers.specs.declared.causes.Cause.TheVariants as cause
use Rattle.gn_text.specs.declared.fault.CaptureFault.{CaptureFault}
use Rattle.gn_numbers.specs.declared.titles.Text.{Text}
use Rattle.gn_numbers.specs.declared.version.Version.{Version}
use Rattle.gn_text.specs.Faults.{fault_at, numbered_at, ◌>>=◌}
use Rattle.gn_text.specs.Parsed.{Numbered}
use Rattle.gn_rules.specs.declared.limits.Numbers.{Numbers}
use Rattle.gn_text.specs.Settings.{config_of, own_of, settings_of, settings_text}
use Rattle.gn_numbers.specs.Names.{title_of, version_of}
use Rattle.gn_numbers.specs.Versions.{version_for}

-- the lines from the third on: the servent, beside the numbers of the second line, and the lines after it
abbrev pub own_from : Numbers → ℕ → List (ℕ × List ℕ) → Result ((Numbers × Own) × List (ℕ × List ℕ)) CaptureFault
own_from numbers after [] = Err (fault_at after cause.Own)
own_from numbers after (line ∷ more) = do
  own ← numbered_at line.0 cause.Own (own_of (fields_of line.1))
  Ok ((numbers, own), more)

-- the lines of a version from the second on: the numbers, then the servent
abbrev pub config_from : Version → ℕ → List (ℕ × List ℕ) → Result ((Numbers × Own) × List (ℕ × List ℕ)) CaptureFault
config_from version after [] = Err (fault_at after cause.Config)
config_from version after (line ∷ more) = do
  numbers ← numbered_at line.0 cause.Config (config_of version (fields_of line.1))
  own_from numbers after more

-- what the lines of a capture or a history say: the settings, and the lines after them. The first line is the title of a
-- version. A line that is missing is at fault after the last one
abbrev pub header_of : Text → ℕ → List (ℕ × List ℕ) → Result ((Numbers × Own) × List (ℕ × List ℕ)) CaptureFault
header_of text after [] = Err (fault_at after cause.Header)
header_of text after (line ∷ more) = do
  version ← numbered_at line.0 cause.Header (version_of text line.1)
  config_from version after more

-- the first line of a text with its line feed
abbrev pub title_text : Text → Version → List ℕ
title_text text version = title_of text version ++ codes "\n"

-- the lines that a text of a configuration begins with, in the least version that can say it
abbrev pub header_text : Text → Config → List ℕ
header_text text s = title_text text (version_for s.numbers) ++ settings_text s

-- a header that was read, and the lines after it
abbrev pub header_seen : Config → Numbered → (Numbers × Own) × List (ℕ × List ℕ)
header_seen config left = (settings_of config, left.lines)
