-- What is kept between two lines of a history that is shown.
use Rattle.std.specs.Prelude.{◌≡◌, ◌++◌, ℕ, List, [], drop, length, reverse, option_map, Option, Result, Ok, Err}
use Rattle.std.specs.declared.alloc.Global.{Global}
use Rattle.gn_rules.specs.declared.receipt.Step.{Step}
use Rattle.gn_rules.specs.Statistics.{stats_of}
use Rattle.gn_rules.specs.declared.statistics.Stats.{Stats}
use Rattle.gn_text.specs.declared.fault.CaptureFault.{CaptureFault}
use Rattle.gn_rules.specs.declared.config.Own.{Own}
use Rattle.gn_rules.specs.declared.limits.Numbers.{Numbers}
use Rattle.gn_text.specs.Faults.{IsRefused}
use Rattle.gn_capture.specs.Histories.{history_of, map_result, steps_left}
use Rattle.gn_io.specs.Parts.{LeavesToWrite, WaitsPart}
use Rattle.gn_io.specs.Streams.{HasReadFailed, HasWriteFailed, NoWriteFailed, SinkState}
use Rattle.gn_replay.specs.declared.fault.ReplayFault.{ReplayFault}
use Rattle.gn_replay.specs.declared.fault.ReplayFault.TheVariants as fault
use Rattle.gn_stream.specs.declared.entries.Due.{Due}
use Rattle.gn_stream.specs.declared.entries.Due.TheVariants as due
use Rattle.gn_stream.specs.declared.entries.Entry.{Entry}
use Rattle.gn_stream.specs.declared.fault.StreamFault.{StreamFault}
use Rattle.gn_stream.specs.Entries.{IsEntry, due_begun, due_left}
use Rattle.gn_stream.specs.Left.{AreGone, IsTooLong, Left, numbered_left}
use Rattle.gn_stream.specs.Reading.{Goes, IsReadOf, MayCome, Passes, Place, left_of}
use Rattle.gn_stream.specs.Steps.{AreRefused, history_left}
use Rattle.gn_show.specs.declared.flight.Flight.{Flight}
use Rattle.gn_show.specs.declared.form.Form.{Form}
use Rattle.gn_show.specs.declared.showing.Showing.{Showing}
use Rattle.gn_show.specs.Kept.{Fits, Follows}
use Rattle.gn_show.specs.Shown.{begun_text, head_of, text_of}
use Rattle.gn_show.specs.Times.{Place as Stands, times_from}

-- where the next step stands
abbrev pub stands : Showing → Stands
stands showing = record { index = showing.index; time = showing.time.items }

-- nothing is read yet
pub record IsNew (showing : Showing) : Type 0 where
  pub title : showing.due ≡ due.Title
  pub time : showing.time.items ≡ []
  pub flight : Follows showing.flight []
  pub index : showing.index ≡ 0
  pub block : showing.block ≡ []

-- the times of the steps that lines of a whole history say
abbrev pub times_of : List (List ℕ) → List (List ℕ)
times_of lines = drop 3 (times_from [] lines)

-- these are the times of all lines that say something and of those that are left, as this is due after these steps
abbrev pub AreTimed : Due → List (List ℕ) → List (List ℕ) → List (Step Global) → Type 0
AreTimed due.Title all left made = (left ≡ all) × (made ≡ [])
AreTimed (due.Config version) all left made = (left ≡ drop 1 all) × (made ≡ [])
AreTimed (due.Own numbers) all left made = (left ≡ drop 2 all) × (made ≡ [])
AreTimed due.Step all left made = left ≡ drop (length made) (drop 3 all)
AreTimed due.Nothing all left made = Unit {0}

-- what is shown so far of these steps at these times: nothing of a header
abbrev pub due_text : Due → Form → List (List ℕ) → List (Step Global) → List ℕ
due_text due.Step form times made = text_of form times made
due_text due.Nothing form times made = text_of form times made
due_text other form times made = []

-- what is shown of a line that says no step: the names of columns, where steps come next
abbrev pub due_head : Due → Form → List ℕ
due_head due.Step form = head_of form
due_head other form = []

-- lines are gone, and of what is shown of their steps all was written but what waits; this is due then, and this is kept
pub record IsShowingAt (form : Form) (first last : Option (List ℕ)) (now : Due) (time : List ℕ) (index : ℕ) (flight : Flight) (waiting : List ℕ)
    (old new : Left) : Type 0 where
  pub gone : AreGone old new
  pub made : List (Step Global)
  pub left : due_left due.Title (numbered_left old) ≡ map_result (λ more. made ++ more) (due_left now (numbered_left new))
  pub begun : due_begun due.Title (numbered_left old) ≡ option_map (λ more. made ++ more) (due_begun now (numbered_left new))
  pub indexed : index ≡ length made
  pub fits : Fits form flight (reverse made)
  pub timed : AreTimed now (times_from [] old.lines) (times_from time new.lines) made
  pub leaves : LeavesToWrite first last waiting (due_text now form (times_of old.lines) made)

abbrev pub IsShowing : Form → Option (List ℕ) → Option (List ℕ) → Showing → Left → Left → Type 0
IsShowing form first last s old new = IsShowingAt form first last s.due s.time.items s.index s.flight s.block old new

-- what a line says is shown
abbrev pub ShowsOn : Form → List ℕ → Entry Global → Showing → Showing → Type 0
ShowsOn form line entry before after =
    (was : Due) (first last : Option (List ℕ)) (old mid new : Left)
    → IsShowingAt form first last was before.time.items before.index before.flight before.block old mid
    → IsEntry line entry was before.due mid new → IsShowing form first last after old new

-- what is shown of the steps before the first fault of lines
abbrev pub lines_begun : Form → Left → List ℕ
lines_begun form left = begun_text form (times_of left.lines) (due_begun due.Title (numbered_left left))

-- all lines are gone, they say steps, and of what is shown of those all was written but what waits
pub record AreShown (form : Form) (first last : Option (List ℕ)) (waiting : List ℕ) (old new : Left) : Type 0 where
  pub gone : AreGone old new
  pub none : new.lines ≡ []
  pub steps : List (Step Global)
  pub said : due_left due.Title (numbered_left old) ≡ Ok steps
  pub leaves : LeavesToWrite first last waiting (text_of form (times_of old.lines) steps)

-- lines have this fault, and of what is shown of the steps before it all was written but what waits
pub record AreShownTo (form : Form) (fault : CaptureFault) (first last : Option (List ℕ)) (waiting : List ℕ) (left : Left) : Type 0 where
  pub refused : due_left {A = Global} due.Title (numbered_left left) ≡ Err fault
  pub leaves : LeavesToWrite first last waiting (lines_begun form left)

-- whatever is still to come, a prefix of what is shown of the steps before the first fault was written, and what waits comes next
pub record AreShownOn (form : Form) (first last : Option (List ℕ)) (waiting : List ℕ) (old new : Place) : Type 0 where
  pub goes : Goes old new
  pub part : (more : List ℕ) → MayCome new.reading more → WaitsPart first last waiting (lines_begun form (left_of old.reading (goes.bytes ++ more)))

-- why showing lines stopped
abbrev pub IsLinesFault : Form → ReplayFault → SinkState → SinkState → List ℕ → Place → Place → Type 0
IsLinesFault form fault.Read sink sink_new waiting old new = HasReadFailed old.source new.source
IsLinesFault form fault.TooLarge sink sink_new waiting old new = Passes (λ left _. IsTooLong left) old new
IsLinesFault form (fault.Capture at) sink sink_new waiting old new =
    Passes (λ left _. AreShownTo form at sink.written sink_new.written waiting left) old new
IsLinesFault form fault.Write sink sink_new waiting old new = HasWriteFailed sink sink_new
IsLinesFault form fault.NoMemory sink sink_new waiting old new = Unit {0}

-- no write failed but where that is why
abbrev pub WritesUnless : Result (Unit {0}) ReplayFault → SinkState → SinkState → Type 0
WritesUnless (Err fault.Write) sink sink_new = Unit {0}
WritesUnless result sink sink_new = NoWriteFailed sink sink_new

-- lines of steps were counted to the end of a history
pub record AreCounted (stats : Stats) (old new : Left) : Type 0 where
  pub gone : AreGone old new
  pub none : new.lines ≡ []
  pub steps : List (Step Global)
  pub said : steps_left (numbered_left old) ≡ Ok steps
  pub counted : stats ≡ stats_of (reverse steps)

abbrev pub AreCountedOf : Result Stats StreamFault → Place → Place → Type 0
AreCountedOf result old new = IsReadOf AreCounted (AreRefused Global) result old new

-- so were all lines of a history
pub record IsCountedWhole (stats : Stats) (old new : Left) : Type 0 where
  pub gone : AreGone old new
  pub none : new.lines ≡ []
  pub settings : Numbers × Own
  pub steps : List (Step Global)
  pub said : history_left old ≡ Ok (settings, steps)
  pub counted : stats ≡ stats_of (reverse steps)

abbrev pub IsCountedOf : Result Stats StreamFault → Place → Place → Type 0
IsCountedOf result old new =
    IsReadOf IsCountedWhole (λ refusal left. IsRefused refusal (history_left {A = Global} left)) result old new

-- a text is a history, and these are its counters
abbrev pub IsCounted : Stats → List ℕ → Type 0
IsCounted stats text =
    (settings : Numbers × Own) × (steps : List (Step Global)) × (history_of text ≡ Ok (settings, steps))
    × (stats ≡ stats_of (reverse steps))
