-- The settings that a capture says are those of a configuration.
use Rattle.std.proofs.Common.{ℕ, Bool, true, false, if◌then◌else◌, List, [], ◌∷◌, Result, Ok, Err}
use Rattle.std.specs.Prelude.{IfOk}
use Rattle.gn_rules.specs.declared.config.Own.{Own}
use Rattle.gn_text.specs.declared.fault.CaptureFault.{CaptureFault}
use Rattle.gn_numbers.specs.declared.version.Version.TheVariants.{Third}
use Rattle.gn_numbers.specs.declared.titles.Text.TheVariants as text
use Rattle.gn_text.specs.Header.{config_from, header_of}
use Rattle.gn_text.specs.Lines.{is_word}
use Rattle.gn_text.specs.Faults.{◌>>=◌}
use Rattle.gn_text.specs.Parsed.{line_after, parsed_of}
use Rattle.gn_rules.specs.declared.limits.Numbers.{Numbers}
use Rattle.gn_text.proofs.ConfigLemmas.{IsConfigured}
use Rattle.gn_text.proofs.HeaderLemmas.{ParsedHeader, config_configured, header_configured}
use Rattle.gn_capture.specs.declared.line.Line.{Line}
use Rattle.gn_capture.specs.Captures.{Parsed, capture_header, capture_of, fifth_title, has_all, header_from, lines_from, parsed_by}

-- the settings that a capture says are those of a configuration
abbrev pub HasConfig : {A : Type 0} → Parsed A → Type 0
HasConfig parsed = IsConfigured (parsed.numbers, parsed.own)

lines_configured : {A : Type 0} (settings : Numbers × Own) (read : Result (List (ℕ × Line A)) CaptureFault) → IsConfigured settings
    → IfOk (read >>= λ lines. Ok (record { numbers = settings.0; own = settings.1; lines = lines })) (λ (parsed : Parsed A). HasConfig parsed)
lines_configured settings (Ok lines) h = h
lines_configured settings (Err fault) h = _

configured_after : (A : Type 0) (all : Bool) (read : Result ParsedHeader CaptureFault) → IfOk read (λ (header : ParsedHeader). IsConfigured header.0)
    → IfOk (read >>= parsed_by {A = A} all) (λ (parsed : Parsed A). HasConfig parsed)
configured_after A all (Ok header) h = lines_configured header.0 (lines_from {A = A} all 0 header.1) h
configured_after A all (Err fault) h = _

-- either header that may be read
either_configured : (fifth : Bool) (one other : Result ParsedHeader CaptureFault) → IfOk one (λ (header : ParsedHeader). IsConfigured header.0)
    → IfOk other (λ (header : ParsedHeader). IsConfigured header.0) → IfOk (if fifth then one else other) (λ (header : ParsedHeader). IsConfigured header.0)
either_configured true one other h k = h
either_configured false one other h k = k

-- the first lines of either title
first_configured : (after : ℕ) (lines : List (ℕ × List ℕ)) → IfOk (header_from after lines) (λ (header : ParsedHeader). IsConfigured header.0)
first_configured after [] = header_configured text.Capture after []
first_configured after (title ∷ more) =
    either_configured (is_word title.1 fifth_title) (config_from Third after more) (header_of text.Capture after (title ∷ more))
    (config_configured Third after more) (header_configured text.Capture after (title ∷ more))

pub capture_configured : (A : Type 0) (input : List ℕ) → IfOk (capture_of {A = A} input) (λ (parsed : Parsed A). HasConfig parsed)
capture_configured A input =
    configured_after A (has_all (parsed_of input)) (capture_header input) (first_configured (line_after input) (parsed_of input))
