-- The line of a history in which a step stands.
use Rattle.std.proofs.Common.{◌≡◌, ◌∙◌, ℕ, ◌+◌, zero, suc, Bool, true, false, List, [], ◌∷◌, Option, Some, None, Result, Ok, Err, refl, sym, ap, arith}
use Rattle.std.specs.Prelude.{if◌then◌else◌}
use Rattle.std.specs.List.{slice_get}
use Rattle.gn_rules.specs.declared.config.Own.{Own}
use Rattle.gn_rules.specs.declared.receipt.Step.{Step}
use Rattle.gn_text.specs.declared.fault.CaptureFault.{CaptureFault}
use Rattle.gn_numbers.specs.declared.causes.Cause.TheVariants as cause
use Rattle.gn_numbers.specs.declared.titles.Text.{Text}
use Rattle.gn_numbers.specs.declared.titles.Text.TheVariants.{History}
use Rattle.gn_numbers.specs.declared.version.Version.{Version}
use Rattle.gn_numbers.specs.Names.{version_of}
use Rattle.gn_text.specs.Faults.{numbered_at, ◌>>=◌}
use Rattle.gn_text.specs.Header.{config_from, header_of, own_from}
use Rattle.gn_text.specs.Lines.{fields_of, is_word}
use Rattle.gn_text.specs.Parsed.{line_after, parsed_of}
use Rattle.gn_rules.specs.declared.limits.Numbers.{Numbers}
use Rattle.gn_text.specs.Settings.{config_of, own_of}
use Rattle.gn_capture.specs.Histories.{ended, ending, history_of, line_parsed, map_result, steps_after, steps_from}
use Rattle.gn_capture.specs.Steps.{step_parsed}
use Rattle.gn_replay.specs.Explained.{step_line_at}

-- the line at the index says the step
pub record IsLineOf {A : Type 0} (lines : List (ℕ × List ℕ)) (i : ℕ) (step : Step A) : Type 0 where
  pub line : ℕ × List ℕ
  pub stands : slice_get lines i ≡ Some line
  pub says : step_parsed (fields_of line.1) ≡ Some step

parsed_by : {A : Type 0} (n : ℕ) (is_end : Bool) (o : Option (Step A)) (step : Step A)
    → (if is_end then Ok None else map_result Some (numbered_at n cause.Field o)) ≡ Ok (Some step) → o ≡ Some step
parsed_by n true o step e = cc
parsed_by n false None step e = cc
parsed_by n false (Some x) step e = cc

-- a line that is read as a step says it
parsed_step : {A : Type 0} (line : ℕ × List ℕ) (step : Step A) → line_parsed line ≡ Ok (Some step) → step_parsed (fields_of line.1) ≡ Some step
parsed_step line step e = parsed_by line.0 (is_word line.1 ending) (step_parsed (fields_of line.1)) step e

-- after the line `end` no step stands
none_after : {A : Type 0} (line : ℕ × List ℕ) (more : List (ℕ × List ℕ)) (steps : List (Step A)) (i : ℕ) (step : Step A)
    → ended more ≡ Ok steps → slice_get steps i ≡ Some step → IsLineOf (line ∷ more) i step
none_after line (next ∷ more) steps i step all at = absurd (cc)
none_after line [] [] i step all at = absurd (cc)
none_after line [] (x ∷ xs) i step all at = absurd (cc)

-- the step is that of the first line, or of one after it
by_index : {A : Type 0} (line : ℕ × List ℕ) (more : List (ℕ × List ℕ)) (first : Step A) (xs : List (Step A)) (i : ℕ) (step : Step A)
    → step_parsed (fields_of line.1) ≡ Some first → slice_get (first ∷ xs) i ≡ Some step
    → ((j : ℕ) → slice_get xs j ≡ Some step → IsLineOf more j step) → IsLineOf (line ∷ more) i step
by_index line more first xs zero step says at later = record { line = line; stands = refl; says = says ∙ at }
by_index line more first xs (suc j) step says at later =
    let there = later j at in record { line = there.line; stands = there.stands; says = there.says }

at_line : {A : Type 0} (line : ℕ × List ℕ) (more : List (ℕ × List ℕ)) (found : Result (Option (Step A)) CaptureFault) (rest : Result (List (Step A)) CaptureFault) (steps : List (Step A)) (i : ℕ) (step : Step A)
    → line_parsed line ≡ found → (found >>= (λ f. steps_after f more rest)) ≡ Ok steps → slice_get steps i ≡ Some step
    → ((xs : List (Step A)) (j : ℕ) → rest ≡ Ok xs → slice_get xs j ≡ Some step → IsLineOf more j step) → IsLineOf (line ∷ more) i step
at_line line more (Err fault) rest steps i step is all at later = absurd (cc)
at_line line more (Ok None) rest steps i step is all at later = none_after line more steps i step all at
at_line line more (Ok (Some first)) (Err fault) steps i step is all at later = absurd (cc)
at_line line more (Ok (Some first)) (Ok xs) steps i step is all at later =
    let whole : steps ≡ first ∷ xs = cc in
    by_index line more first xs i step (parsed_step line first is) (ap (λ z. slice_get z i) (sym whole) ∙ at) (λ j there. later xs j refl there)

-- each step that lines say stands in the line of its index
stands_in : {A : Type 0} (last : ℕ) (lines : List (ℕ × List ℕ)) (steps : List (Step A)) (i : ℕ) (step : Step A)
    → steps_from last lines ≡ Ok steps → slice_get steps i ≡ Some step → IsLineOf lines i step
stands_in last [] steps i step all at = absurd (cc)
stands_in last (line ∷ more) steps i step all at =
    at_line line more (line_parsed line) (steps_from last more) steps i step refl all at (λ xs j. stands_in last more xs j step)

-- the lines after one
own_more : (numbers : Numbers) (last : ℕ) (lines : List (ℕ × List ℕ)) (header : (Numbers × Own) × List (ℕ × List ℕ))
    → own_from numbers last lines ≡ Ok header → (x : ℕ × List ℕ) × (lines ≡ x ∷ header.1)
own_more numbers last [] header e = absurd (cc)
own_more numbers last (line ∷ more) header e = by (own_of (fields_of line.1)) e
  where
    by : (o : Option Own) → (numbered_at line.0 cause.Own o >>= (λ own. Ok ((numbers, own), more))) ≡ Ok header
        → (x : ℕ × List ℕ) × (line ∷ more ≡ x ∷ header.1)
    by None e = absurd (cc)
    by (Some own) e =
        let known : ((numbers, own), more) ≡ header = cc in
        (line, ap (λ (h : (Numbers × Own) × List (ℕ × List ℕ)). line ∷ h.1) known)

-- the lines after two
config_more : (version : Version) (last : ℕ) (lines : List (ℕ × List ℕ)) (header : (Numbers × Own) × List (ℕ × List ℕ))
    → config_from version last lines ≡ Ok header → (x y : ℕ × List ℕ) × (lines ≡ x ∷ y ∷ header.1)
config_more version last [] header e = absurd (cc)
config_more version last (line ∷ more) header e = by (config_of version (fields_of line.1)) e
  where
    by : (o : Option Numbers) → (numbered_at line.0 cause.Config o >>= (λ numbers. own_from numbers last more)) ≡ Ok header
        → (x y : ℕ × List ℕ) × (line ∷ more ≡ x ∷ y ∷ header.1)
    by None e = absurd (cc)
    by (Some numbers) e =
        let more_of = own_more numbers last more header e in
        (line, more_of.0, ap (λ xs. line ∷ xs) more_of.1)

-- the lines after the first three
pub header_more : (text : Text) (last : ℕ) (lines : List (ℕ × List ℕ)) (header : (Numbers × Own) × List (ℕ × List ℕ)) (i : ℕ)
    → header_of text last lines ≡ Ok header → slice_get lines (suc (suc (suc i))) ≡ slice_get header.1 i
header_more text last [] header i e = absurd (cc)
header_more text last (line ∷ more) header i e = by (version_of text line.1) e
  where
    by : (o : Option Version) → (numbered_at line.0 cause.Header o >>= (λ version. config_from version last more)) ≡ Ok header
        → slice_get (line ∷ more) (suc (suc (suc i))) ≡ slice_get header.1 i
    by None e = absurd (cc)
    by (Some version) e =
        let more_of = config_more version last more header e in
        ap (λ xs. slice_get xs (suc (suc i))) more_of.2

abbrev headed : {A : Type 0} → Numbers × Own → Result (List (Step A)) CaptureFault → Result ((Numbers × Own) × List (Step A)) CaptureFault
headed settings steps = map_result (λ xs. (settings, xs)) steps

abbrev steps_in : {A : Type 0} → Result ((Numbers × Own) × List (Step A)) CaptureFault → List (Step A)
steps_in (Ok history) = history.1
steps_in (Err fault) = []

headed_same : {A : Type 0} (one other : Numbers × Own) (xs steps : List (Step A)) → headed one (Ok xs) ≡ Ok (other, steps) → xs ≡ steps
headed_same one other xs steps e = ap steps_in e

-- what is read after the first three lines, where those are read so
abbrev read_after : {A : Type 0} → ℕ → Result ((Numbers × Own) × List (ℕ × List ℕ)) CaptureFault → Result ((Numbers × Own) × List (Step A)) CaptureFault
read_after last header = do
  h ← header
  headed h.0 (steps_from last h.1)

-- the steps of a text, after its first three lines
in_text : {A : Type 0} (lines : List (ℕ × List ℕ)) (last : ℕ) (header : Result ((Numbers × Own) × List (ℕ × List ℕ)) CaptureFault) (settings : Numbers × Own) (steps : List (Step A)) (i : ℕ) (step : Step A)
    → header_of History last lines ≡ header
    → read_after last header ≡ Ok (settings, steps) → slice_get steps i ≡ Some step
    → IsLineOf lines (suc (suc (suc i))) step
in_text lines last (Err fault) settings steps i step is all at = absurd (cc)
in_text lines last (Ok header) settings steps i step is all at = by (steps_from last header.1) refl all
  where
    by : (rest : Result (List (Step _)) CaptureFault) → steps_from last header.1 ≡ rest
        → headed header.0 rest ≡ Ok (settings, steps) → IsLineOf lines (suc (suc (suc i))) step
    by (Err fault) read e = absurd (cc)
    by (Ok xs) read e =
        let same = headed_same header.0 settings xs steps e in
        let line = stands_in last header.1 xs i step read (ap (λ z. slice_get z i) same ∙ at) in
        record { line = line.line; stands = header_more History last lines header i is ∙ line.stands; says = line.says }

-- a step of a history stands in its line
pub step_stands : {A : Type 0} (text : List ℕ) (settings : Numbers × Own) (steps : List (Step A)) (i : ℕ) (step : Step A)
    → history_of text ≡ Ok (settings, steps) → slice_get steps i ≡ Some step
    → (line : ℕ × List ℕ) × (step_line_at text i ≡ Some line) × (step_parsed (fields_of line.1) ≡ Some step)
step_stands text settings steps i step parsed at =
    let found = in_text (parsed_of text) (line_after text) (header_of History (line_after text) (parsed_of text)) settings steps i step refl parsed at in
    let place : 3 + i ≡ suc (suc (suc i)) = omega arith in
    (found.line, ap (slice_get (parsed_of text)) place ∙ found.stands, found.says)
