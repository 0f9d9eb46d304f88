-- What replays and audits answer, and when they stop.
use Rattle.std.specs.Prelude.{◌≡◌, ◌≤◌, ℕ, List, [], length, Some, IfErr, IfSome, IsOk, OnOk, Result, Err}
use Rattle.gn_text.specs.declared.fault.CaptureFault.{CaptureFault}
use Rattle.gn_text.specs.declared.fault.CaptureRefusal.{CaptureRefusal}
use Rattle.gn_text.specs.declared.fault.CaptureRefusal.TheVariants as refusal
use Rattle.gn_io.specs.declared.input.InputFault.{InputFault}
use Rattle.gn_io.specs.declared.input.InputFault.TheVariants as input
use Rattle.gn_io.specs.Input.{IsTooLarge, input_limit}
use Rattle.gn_io.specs.Streams.{HasReadFailed, HasWriteFailed, NoneFailed, SourceState, Streams, text_between, text_of}
use Rattle.gn_stream.specs.declared.fault.StreamFault.{StreamFault}
use Rattle.gn_stream.specs.declared.fault.StreamFault.TheVariants as stream
use Rattle.gn_stream.specs.Left.{AreShort, IsTooLong, Left}
use Rattle.gn_replay.specs.declared.fault.ReplayFault.{ReplayFault}
use Rattle.gn_replay.specs.declared.fault.ReplayFault.TheVariants.{Read, TooLarge, Capture, Write, NoMemory}

-- the fault of an input that wasn't read
abbrev pub of_input : InputFault → ReplayFault
of_input input.Read = Read
of_input input.TooLarge = TooLarge
of_input input.NoMemory = NoMemory

-- the fault of a text that was refused
abbrev pub of_refusal : CaptureRefusal → ReplayFault
of_refusal (refusal.Fault fault) = Capture fault
of_refusal refusal.NoMemory = NoMemory

-- the fault of a history that is read a line at a time
abbrev pub of_stream : StreamFault → ReplayFault
of_stream (stream.Input fault) = of_input fault
of_stream (stream.Text refusal) = of_refusal refusal

-- a source that will give these bytes
abbrev pub input_of : List ℕ → SourceState
input_of text = record { rest = Some text; told = []; failures = 0; given = 0 }

-- an input is no longer than it may be, and what it says is this
abbrev pub IsInputThat : Streams → (List ℕ → Type 0) → Type 0
IsInputThat s Says = IfSome (text_of s) (λ text. (length text ≤ input_limit) × Says text)

-- when each fault comes, where `parsed` is what a text says: Read where a read failed, TooLarge where there are more
-- than 67,108,864 bytes, Capture with the very fault of an input that has no more, Write where a write failed or took
-- nothing and the input has no more and no fault; memory may run out at any time
abbrev pub IsReplayFault : {X : Type 0} → ReplayFault → (List ℕ → Result X CaptureFault) → Streams → Type 0
IsReplayFault Read parsed s = HasReadFailed s.source s.source_new
IsReplayFault TooLarge parsed s = IsTooLarge s.source s.source_new
IsReplayFault (Capture fault) parsed s = IsInputThat s (λ text. parsed text ≡ Err fault)
IsReplayFault Write parsed s = IsInputThat s (λ text. IsOk (parsed text)) × HasWriteFailed s.sink s.sink_new
IsReplayFault NoMemory parsed s = Unit {0}

-- what each replay and audit answers, where `parsed` is what a text says: at Ok the input is no longer than it may be
-- and has no fault, and no read and no write failed; an Err is a fault that the streams confirm
pub record IsAnswerOn {X T : Type 0} (parsed : List ℕ → Result X CaptureFault) (s : Streams)
    (answer : Result T ReplayFault) : Type 0 where
  pub short : OnOk answer (IfSome (text_of s) (λ text. length text ≤ input_limit))
  pub valid : OnOk answer (IfSome (text_of s) (λ text. IsOk (parsed text)))
  pub unfailed : OnOk answer (NoneFailed s)
  pub fault : IfErr answer (λ fault. IsReplayFault fault parsed s)

-- when each fault of a text comes that is read a line at a time, where `lines` are those that are read of it and `parsed` is what it
-- says: Read where a read failed, TooLarge
-- where a line has more than 67,108,864 bytes, or there are 2^64 lines, Capture with the very fault of the text; memory may run
-- out at any time
abbrev pub IsTextFault : {X : Type 0} → ReplayFault → (List ℕ → Left) → (List ℕ → Result X CaptureFault) → SourceState → SourceState → Type 0
IsTextFault Read lines parsed old new = HasReadFailed old new
IsTextFault TooLarge lines parsed old new = IfSome (text_between old new) (λ text. IsTooLong (lines text))
IsTextFault (Capture fault) lines parsed old new = IfSome (text_between old new) (λ text. parsed text ≡ Err fault)
IsTextFault Write lines parsed old new = ⊥
IsTextFault NoMemory lines parsed old new = Unit {0}

-- so for an audit: Write where a write failed or took nothing, of a text with no fault
abbrev pub IsAuditFault : {X : Type 0} → ReplayFault → (List ℕ → Left) → (List ℕ → Result X CaptureFault) → Streams → Type 0
IsAuditFault Write lines parsed s =
    IfSome (text_of s) (λ text. AreShort (lines text).lines × IsOk (parsed text)) × HasWriteFailed s.sink s.sink_new
IsAuditFault fault lines parsed s = IsTextFault fault lines parsed s.source s.source_new

-- what each audit answers, where `lines` are those that are read of a text and `parsed` is what it says: at Ok no line of the input is longer than a line may be, the input
-- has no fault, and no read and no write failed; an Err is a fault that the streams confirm. The text may have any length
pub record IsAuditOn {X T : Type 0} (lines : List ℕ → Left) (parsed : List ℕ → Result X CaptureFault) (s : Streams)
    (answer : Result T ReplayFault) : Type 0 where
  pub short : OnOk answer (IfSome (text_of s) (λ text. AreShort (lines text).lines))
  pub valid : OnOk answer (IfSome (text_of s) (λ text. IsOk (parsed text)))
  pub unfailed : OnOk answer (NoneFailed s)
  pub fault : IfErr answer (λ fault. IsAuditFault fault lines parsed s)
