-- What is shown of a history.
use Rattle.std.specs.Prelude.{◌≡◌, ◌+◌, ◌-◌, ℕ, List, [], ◌∷◌, ◌++◌, codes, length, reverse, take, Option, Some, None, IfErr, IfSome, IsOk, OnOk, Result, Ok}
use Rattle.std.specs.Io.KnownBytes.{Appends, Keeps}
use Rattle.std.specs.declared.alloc.Global.{Global}
use Rattle.serde_json.specs.Written.{compact_text}
use Rattle.gn_rules.specs.Flight.{Admission}
use Rattle.gn_rules.specs.Statistics.{stats_of}
use Rattle.gn_rules.specs.declared.config.Own.{Own}
use Rattle.gn_rules.specs.declared.receipt.Step.{Step}
use Rattle.gn_rules.specs.declared.limits.Numbers.{Numbers}
use Rattle.gn_text.specs.Statistics.{stats_text}
use Rattle.gn_capture.specs.Histories.{history_of}
use Rattle.gn_io.specs.Parts.{AppendsPart}
use Rattle.gn_io.specs.Streams.{HasWriteFailed, NoneFailed, Streams, text_of as text_given}
use Rattle.gn_numbers.specs.declared.titles.Text.TheVariants.{History}
use Rattle.gn_text.specs.Header.{header_of}
use Rattle.gn_text.specs.Parsed.{line_after, parsed_of}
use Rattle.gn_stream.specs.Entries.{begun_after}
use Rattle.gn_stream.specs.Left.{AreShort, all_lines}
use Rattle.gn_replay.specs.Faults.{IsAuditFault}
use Rattle.gn_replay.specs.declared.fault.ReplayFault.{ReplayFault}
use Rattle.gn_replay.specs.declared.fault.ReplayFault.TheVariants as fault
use Rattle.gn_show.specs.declared.form.Form.{Form}
use Rattle.gn_show.specs.declared.form.Form.TheVariants.{Plain, Json, Rows}
use Rattle.gn_show.specs.declared.form.View.{View}
use Rattle.gn_show.specs.declared.form.View.TheVariants.{Steps, Stats as Counters}
use Rattle.gn_show.specs.Plain.{plain_line}
use Rattle.gn_show.specs.Rows.{heading, step_lines}
use Rattle.gn_show.specs.Subjects.{subject, waiting}
use Rattle.gn_show.specs.Times.{Place, place_of, step_times}
use Rattle.gn_show.specs.Values.{step_data}

-- the text of an object that has the time too, where there is one: as its last member, before its closing brace
abbrev pub with_time : List ℕ → List ℕ → List ℕ
with_time [] text = text
with_time (b ∷ bs) text = take (length text - 1) text ++ codes ",\"t\":" ++ (b ∷ bs) ++ codes "}"

-- the line in JSON of a step whose event speaks of this packet
abbrev pub json_line : Option Admission → Place → Step Global → List ℕ
json_line a place step = with_time place.time (compact_text (step_data a place.index step)) ++ codes "\n"

-- the lines of a step, after these, of which the newest is first
abbrev pub line_of : Form → List (Step Global) → Place → Step Global → List ℕ
line_of Plain past place step = plain_line place.index step
line_of Json past place step = json_line (subject (waiting past) step.event) place step
line_of Rows past place step = step_lines past place step

-- the lines of steps at these times, whose indices go up from this one, after these
abbrev pub lines_from : Form → List (List ℕ) → List (Step Global) → ℕ → List (Step Global) → List ℕ
lines_from form times past index [] = []
lines_from form times past index (step ∷ more) =
    line_of form past (place_of times index) step ++ lines_from form times (step ∷ past) (index + 1) more

-- what stands above the lines: over rows the names of their columns
abbrev pub head_of : Form → List ℕ
head_of Rows = heading
head_of form = []

-- the lines of a history's steps at these times, whose indices count from 0
abbrev pub text_of : Form → List (List ℕ) → List (Step Global) → List ℕ
text_of form times steps = head_of form ++ lines_from form times [] 0 steps

-- what is shown of steps at these times: the lines of each; or the line of the counters
abbrev pub shown : View → List (List ℕ) → List (Step Global) → List ℕ
shown (Steps form) times steps = text_of form times steps
shown Counters times steps = stats_text (stats_of (reverse steps))

-- a text is a history, and this is what is shown of its steps, whether they are legal or not
pub record IsShown (view : View) (text out : List ℕ) : Type 0 where
  pub settings : Numbers × Own
  pub steps : List (Step Global)
  pub parsed : history_of text ≡ Ok (settings, steps)
  pub shown : out ≡ shown view (step_times text) steps

-- known bytes grew by what is shown of the history that a text says
abbrev pub AppendsShown : View → List ℕ → Option (List ℕ) → Option (List ℕ) → Type 0
AppendsShown view text old new = (out : List ℕ) × IsShown view text out × Appends old new out

-- known bytes grew by a prefix of it
abbrev pub AppendsShownPart : View → List ℕ → Option (List ℕ) → Option (List ℕ) → Type 0
AppendsShownPart view text old new = (out : List ℕ) × IsShown view text out × AppendsPart old new out

-- what is shown of steps that stand before the first fault of a text; nothing, where that is in its header
abbrev pub begun_text : Form → List (List ℕ) → Option (List (Step Global)) → List ℕ
begun_text form times (Some steps) = text_of form times steps
begun_text form times None = []

-- what is shown of the steps before the first fault of a text; of a history all of its steps
abbrev pub shown_begun : Form → List ℕ → List ℕ
shown_begun form text =
    begun_text form (step_times text) (begun_after (header_of History (line_after text) (parsed_of text)))

-- what was written where it stopped: at a fault of the text exactly the lines of the steps before it, at any other fault a prefix
-- of them; of the counters a prefix of their line at Write, else nothing
abbrev pub HasShowStopped : View → ReplayFault → Option (List ℕ) → Option (List ℕ) → Option (List ℕ) → Type 0
HasShowStopped (Steps form) (fault.Capture at) rest old new = IfSome rest (λ text. Appends old new (shown_begun form text))
HasShowStopped (Steps form) fault rest old new = IfSome rest (λ text. AppendsPart old new (shown_begun form text))
HasShowStopped Counters fault.Write rest old new = IfSome rest (λ text. AppendsShownPart Counters text old new)
HasShowStopped Counters fault rest old new = Keeps old new

-- when each fault comes: as an audit's; but that a write of steps failed says nothing of the text, which isn't read to its end then
abbrev pub IsShowFault : View → ReplayFault → Streams → Type 0
IsShowFault (Steps form) fault.Write s = HasWriteFailed s.sink s.sink_new
IsShowFault view fault s = IsAuditFault fault all_lines (history_of {A = Global}) s

-- what is answered: at Ok no line of the input is longer than a line may be, the input is a history, and no read and no write failed; an Err
-- is a fault that the streams confirm
pub record IsShowOn (view : View) (s : Streams) (answer : Result (Unit {0}) ReplayFault) : Type 0 where
  pub short : OnOk answer (IfSome (text_given s) (λ text. AreShort (all_lines text).lines))
  pub valid : OnOk answer (IfSome (text_given s) (λ text. IsOk (history_of {A = Global} text)))
  pub unfailed : OnOk answer (NoneFailed s)
  pub fault : IfErr answer (λ fault. IsShowFault view fault s)
