-- What the lines of a history say, each by itself.
use Rattle.std.specs.Prelude.{◌≡◌, ℕ, Bool, true, false, List, [], ◌∷◌, Option, Some, None, Result, Ok, Err}
use Rattle.gn_rules.specs.declared.receipt.Step.{Step}
use Rattle.gn_numbers.specs.declared.causes.Cause.{Cause}
use Rattle.gn_numbers.specs.declared.causes.Cause.TheVariants as cause
use Rattle.gn_text.specs.declared.fault.CaptureFault.{CaptureFault}
use Rattle.gn_text.specs.declared.fault.CaptureRefusal.{CaptureRefusal}
use Rattle.gn_text.specs.declared.fault.CaptureRefusal.TheVariants.{Fault, NoMemory}
use Rattle.gn_numbers.specs.declared.titles.Text.TheVariants.{History}
use Rattle.gn_text.specs.Faults.{◌>>=◌}
use Rattle.gn_text.specs.Header.{config_from, header_of, own_from}
use Rattle.gn_text.specs.Lines.{is_skipped}
use Rattle.gn_text.specs.Parsed.{Numbered}
use Rattle.gn_capture.specs.Histories.{ended, line_parsed, map_result, steps_from, steps_left}
use Rattle.gn_stream.specs.declared.entries.Due.{Due}
use Rattle.gn_stream.specs.declared.entries.Due.TheVariants as due
use Rattle.gn_stream.specs.declared.entries.Entry.{Entry}
use Rattle.gn_stream.specs.declared.entries.Entry.TheVariants as entry
use Rattle.gn_stream.specs.declared.fault.StreamFault.{StreamFault}
use Rattle.gn_stream.specs.Left.{AreGone, Left, numbered_left}
use Rattle.gn_stream.specs.Reading.{IsReadOf, Place}

-- a step, where a line says one, before others
abbrev pub step_first : {A : Type 0} → Result (Option (Step A)) CaptureFault → List (Step A) → List (Step A)
step_first (Ok (Some step)) more = step ∷ more
step_first found more = []

-- the steps that lines say before the first line that says none
abbrev pub steps_before : {A : Type 0} → List (ℕ × List ℕ) → List (Step A)
steps_before [] = []
steps_before (line ∷ more) = step_first (line_parsed line) (steps_before more)

-- those after a header; none, and not even a beginning, where that has a fault
abbrev pub begun_after : {A S : Type 0} → Result (S × List (ℕ × List ℕ)) CaptureFault → Option (List (Step A))
begun_after (Ok header) = Some (steps_before header.1)
begun_after (Err fault) = None

-- the steps of a history, of which this is due: all that is left says, or its first fault
abbrev pub due_left : {A : Type 0} → Due → Numbered → Result (List (Step A)) CaptureFault
due_left due.Title left = do
  header ← header_of History left.after left.lines
  steps_from left.after header.1
due_left (due.Config version) left = do
  header ← config_from version left.after left.lines
  steps_from left.after header.1
due_left (due.Own numbers) left = do
  header ← own_from numbers left.after left.lines
  steps_from left.after header.1
due_left due.Step left = steps_left left
due_left due.Nothing left = ended left.lines

-- those before its first fault
abbrev pub due_begun : {A : Type 0} → Due → Numbered → Option (List (Step A))
due_begun due.Title left = begun_after (header_of History left.after left.lines)
due_begun (due.Config version) left = begun_after (config_from version left.after left.lines)
due_begun (due.Own numbers) left = begun_after (own_from numbers left.after left.lines)
due_begun due.Step left = Some (steps_before left.lines)
due_begun due.Nothing left = Some []

-- those before a fault in the next line
abbrev pub none_begun : {A : Type 0} → Due → Option (List (Step A))
none_begun due.Step = Some []
none_begun due.Nothing = Some []
none_begun other = None

-- what is wrong where no line is left
abbrev pub missing_line : Due → Option Cause
missing_line due.Title = Some cause.Header
missing_line (due.Config version) = Some cause.Config
missing_line (due.Own numbers) = Some cause.Own
missing_line due.Step = Some cause.End
missing_line due.Nothing = None

-- a line that says no step is gone
pub record IsFrame (A : Type 0) (before after : Due) (old new : Numbered) : Type 0 where
  pub left : due_left {A = A} before old ≡ due_left after new
  pub begun : due_begun {A = A} before old ≡ due_begun after new

-- this is due after that, where a line says no step
abbrev pub IsNextDue : Due → Due → Type 0
IsNextDue due.Title (due.Config version) = Unit {0}
IsNextDue (due.Config version) (due.Own numbers) = Unit {0}
IsNextDue (due.Own numbers) due.Step = Unit {0}
IsNextDue due.Step due.Nothing = Unit {0}
IsNextDue before after = ⊥

-- the line of a step is gone, where one is due
pub record IsStepLine {A : Type 0} (step : Step A) (before after : Due) (old new : Numbered) : Type 0 where
  pub was : before ≡ due.Step
  pub is : after ≡ due.Step
  pub left : steps_left old ≡ map_result (λ steps. step ∷ steps) (steps_left new)
  pub begun : steps_before old.lines ≡ step ∷ steps_before new.lines

-- a line is gone that says this
abbrev pub Tells : {A : Type 0} → Entry A → Due → Due → Numbered → Numbered → Type 0
Tells {A} entry.Skipped before after old new = (after ≡ before) × IsFrame A before after old new
Tells {A} entry.Frame before after old new = IsNextDue before after × IsFrame A before after old new
Tells {A} (entry.Step step) before after old new = IsStepLine step before after old new

-- whether it is said by a line that is skipped
abbrev pub says_nothing : {A : Type 0} → Entry A → Bool
says_nothing entry.Skipped = true
says_nothing entry = false

-- the first line is gone, and says this
pub record IsEntry {A : Type 0} (line : List ℕ) (entry : Entry A) (before after : Due) (old new : Left) : Type 0 where
  pub gone : AreGone old new
  pub lines : old.lines ≡ line ∷ new.lines
  pub skipped : is_skipped line ≡ says_nothing entry
  pub said : Tells entry before after (numbered_left old) (numbered_left new)

-- no line is left after the line `end`
pub record IsOver (A : Type 0) (before : Due) (old new : Left) : Type 0 where
  pub gone : AreGone old new
  pub none : new.lines ≡ []
  pub over : before ≡ due.Nothing
  pub left : due_left {A = A} before (numbered_left old) ≡ Ok []
  pub begun : due_begun {A = A} before (numbered_left old) ≡ Some []

abbrev pub IsEntryOrEnd : {A : Type 0} → List ℕ → Due → Due → Option (Entry A) → Left → Left → Type 0
IsEntryOrEnd {A} line before after (Some entry) old new = IsEntry line entry before after old new
IsEntryOrEnd {A} line before after None old new = IsOver A before old new

-- what is left is refused at its next line
abbrev pub IsUnread : (A : Type 0) → Due → CaptureRefusal → Numbered → Type 0
IsUnread A before NoMemory left = Unit {0}
IsUnread A before (Fault fault) left =
    (due_left {A = A} before left ≡ Err fault) × (due_begun {A = A} before left ≡ none_begun before)

-- the next line was read, or there is none
abbrev pub IsEntryRead : {A : Type 0} → Due → Due → Result (Option (Entry A)) StreamFault → Place → Place → Type 0
IsEntryRead {A} before after result old new =
    IsReadOf (IsEntryOrEnd new.reading.line before after) (λ refusal left. IsUnread A before refusal (numbered_left left)) result old new

-- what a line comes to that isn't skipped, whatever is left after it
abbrev pub IsDueRead : {A : Type 0} → Due → ℕ → List ℕ → Result (Due × Entry A) CaptureRefusal → Type 0
IsDueRead {A} before number line (Ok said) =
    (says_nothing said.1 ≡ false)
    × ((left : Numbered) → Tells said.1 before said.0 (record { lines = (number, line) ∷ left.lines; after = left.after }) left)
IsDueRead {A} before number line (Err refusal) =
    (left : Numbered) → IsUnread A before refusal (record { lines = (number, line) ∷ left.lines; after = left.after })
