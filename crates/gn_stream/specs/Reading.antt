-- A source that is read a line at a time, and what is left of its text, whatever it will still give.
use Rattle.std.specs.Prelude.{◌≡◌, ℕ, Bool, true, false, List, [], ◌++◌, Option, Some, None, Result, Ok, Err}
use Rattle.std.specs.Io.KnownBytes.{Consumes, IsAtEnd}
use Rattle.gn_io.specs.declared.input.InputFault.{InputFault}
use Rattle.gn_io.specs.declared.input.InputFault.TheVariants.{Read, TooLarge, NoMemory}
use Rattle.gn_io.specs.Streams.{HasReadFailed, NoReadFailed, SourceState}
use Rattle.gn_text.specs.declared.fault.CaptureRefusal.{CaptureRefusal}
use Rattle.gn_stream.specs.declared.fault.StreamFault.{StreamFault}
use Rattle.gn_stream.specs.declared.fault.StreamFault.TheVariants.{Input, Text}
use Rattle.gn_stream.specs.declared.ending.Ending.{Ending}
use Rattle.gn_stream.specs.declared.ending.Ending.TheVariants.{Own, Due}
use Rattle.gn_stream.specs.Left.{IsTooLong, Left}
use Rattle.gn_stream.specs.Unfinished.{is_lacking, left_out, lines_read}

-- a reader of lines: what it read and hasn't gone over, whether the source is at its end, the number of the next line, the line
-- that was given last, and how its lines end
pub record Reading : Type 0 where
  pub held : List ℕ
  pub is_ended : Bool
  pub next : ℕ
  pub line : List ℕ
  pub ending : Ending

-- a reader that has read nothing
abbrev pub fresh : Reading
fresh = record { held = []; is_ended = false; next = 1; line = []; ending = Own }

-- so one of a history that may have been cut
abbrev pub fresh_cut : Reading
fresh_cut = record fresh { ending = Due }

-- a source and its reader
pub record Place : Type 0 where
  pub source : SourceState
  pub reading : Reading

-- these, as one
abbrev pub place : SourceState → Reading → Place
place source reading = record { source = source; reading = reading }

-- a source gave these bytes, and no read failed
pub record HasGiven (old new : SourceState) (bytes : List ℕ) : Type 0 where
  pub told : new.told ≡ old.told ++ bytes
  pub rest : Consumes old.rest new.rest bytes
  pub unfailed : NoReadFailed old new

-- a reader that saw the end of its source asks for no more
pub record HasEnded (old new : Place) (bytes : List ℕ) : Type 0 where
  pub none : old.reading.is_ended ≡ true → (bytes ≡ []) × (new.reading.is_ended ≡ true)
  pub end : (old.reading.is_ended ≡ true → IsAtEnd old.source.rest) → new.reading.is_ended ≡ true → IsAtEnd new.source.rest

-- a source gave these bytes, whether a read failed or not
pub record Gives (old new : SourceState) (bytes : List ℕ) : Type 0 where
  pub told : new.told ≡ old.told ++ bytes
  pub rest : Consumes old.rest new.rest bytes

-- a source went on, and its reader with it, as far as it went well
pub record Goes (old new : Place) : Type 0 where
  pub bytes : List ℕ
  pub given : Gives old.source new.source bytes
  pub ended : HasEnded old new bytes

-- what is left where these bytes are still to come
abbrev pub left_of : Reading → List ℕ → Left
left_of reading more =
    let text = reading.held ++ more in
    record {
      lines = lines_read reading.ending text;
      first = reading.next;
      cut = left_out reading.ending text;
      lacks = is_lacking reading.ending text;
    }

-- after the end none come
abbrev pub MayCome : Reading → List ℕ → Type 0
MayCome reading more = reading.is_ended ≡ true → more ≡ []

-- whatever is still to come, what was left and what is left now stand in this relation
pub record Passes (Holds : Left → Left → Type 0) (old new : Place) : Type 0 where
  pub bytes : List ℕ
  pub given : HasGiven old.source new.source bytes
  pub ended : HasEnded old new bytes
  pub holds : (more : List ℕ) → MayCome new.reading more → Holds (left_of old.reading (bytes ++ more)) (left_of new.reading more)

-- when each fault of the input comes: Read where a read failed, TooLarge where a line is too long; memory may run out at any
-- time
abbrev pub IsReadingFault : InputFault → Place → Place → Type 0
IsReadingFault Read old new = HasReadFailed old.source new.source
IsReadingFault TooLarge old new = Passes (λ left _. IsTooLong left) old new
IsReadingFault NoMemory old new = Unit {0}

-- when each fault of one read comes
abbrev pub IsPieceFault : InputFault → SourceState → SourceState → Type 0
IsPieceFault Read old new = HasReadFailed old new
IsPieceFault TooLarge old new = ⊥
IsPieceFault NoMemory old new = Unit {0}

-- what a reader does: at Ok what was left and what is left now stand in a relation; what the text is refused for is true
-- of what was left
abbrev pub IsReadOf : {T : Type 0} → (T → Left → Left → Type 0) → (CaptureRefusal → Left → Type 0) → Result T StreamFault → Place → Place → Type 0
IsReadOf Holds Refuses (Ok x) old new = Passes (Holds x) old new
IsReadOf Holds Refuses (Err (Text refusal)) old new = Passes (λ left _. Refuses refusal left) old new
IsReadOf Holds Refuses (Err (Input fault)) old new = IsReadingFault fault old new
