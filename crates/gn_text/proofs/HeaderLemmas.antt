-- Settings that a header says are those of a configuration.
use Rattle.std.proofs.Common.{ℕ, List, [], ◌∷◌, Option, Some, None, Ok}
use Rattle.std.specs.Prelude.{IfOk, IfSome}
use Rattle.gn_rules.specs.declared.config.Own.{Own}
use Rattle.gn_text.specs.Lines.{fields_of}
use Rattle.gn_numbers.specs.declared.causes.Cause.TheVariants as cause
use Rattle.gn_text.specs.Faults.{numbered_at, ◌>>=◌}
use Rattle.gn_text.specs.Header.{config_from, header_of, own_from}
use Rattle.gn_rules.specs.declared.limits.Numbers.{Numbers}
use Rattle.gn_text.specs.Settings.{config_of, own_of}
use Rattle.gn_numbers.specs.declared.titles.Text.{Text}
use Rattle.gn_numbers.specs.declared.version.Version.{Version}
use Rattle.gn_numbers.specs.Names.{version_of}
use Rattle.gn_text.proofs.ConfigLemmas.{ArePassed, IsConfigured, config_is_within, made}

-- the settings that a text's first lines say, and the lines after them
abbrev pub ParsedHeader : Type 0
ParsedHeader = (Numbers × Own) × List (ℕ × List ℕ)

own_line : (numbers : Numbers) (n : ℕ) (more : List (ℕ × List ℕ)) (own : Option Own) → ArePassed numbers
    → IfOk (numbered_at n cause.Own own >>= λ own. Ok ((numbers, own), more)) (λ (header : ParsedHeader). IsConfigured header.0)
own_line numbers n more None h = _
own_line numbers n more (Some own) h = made numbers own h

own_configured : (numbers : Numbers) (after : ℕ) (lines : List (ℕ × List ℕ)) → ArePassed numbers
    → IfOk (own_from numbers after lines) (λ (header : ParsedHeader). IsConfigured header.0)
own_configured numbers after [] h = _
own_configured numbers after (line ∷ more) h = own_line numbers line.0 more (own_of (fields_of line.1)) h

config_line : (n after : ℕ) (more : List (ℕ × List ℕ)) (numbers : Option Numbers) → IfSome numbers ArePassed
    → IfOk (numbered_at n cause.Config numbers >>= λ numbers. own_from numbers after more) (λ (header : ParsedHeader). IsConfigured header.0)
config_line n after more None h = _
config_line n after more (Some numbers) h = own_configured numbers after more h

-- so are those of the second line and the third
pub config_configured : (version : Version) (after : ℕ) (lines : List (ℕ × List ℕ)) → IfOk (config_from version after lines) (λ (header : ParsedHeader). IsConfigured header.0)
config_configured version after [] = _
config_configured version after (line ∷ more) =
    config_line line.0 after more (config_of version (fields_of line.1)) (config_is_within version (fields_of line.1))

title_line : (n after : ℕ) (more : List (ℕ × List ℕ)) (version : Option Version)
    → IfOk (numbered_at n cause.Header version >>= λ version. config_from version after more) (λ (header : ParsedHeader). IsConfigured header.0)
title_line n after more None = _
title_line n after more (Some version) = config_configured version after more

-- the settings that a text's first three lines say are those of a configuration
pub header_configured : (text : Text) (after : ℕ) (lines : List (ℕ × List ℕ)) → IfOk (header_of text after lines) (λ (header : ParsedHeader). IsConfigured header.0)
header_configured text after [] = _
header_configured text after (line ∷ more) = title_line line.0 after more (version_of text line.1)
