-- One line of a source.
use Rattle.std.specs.Prelude.{◌≡◌, ◌≢◌, ◌≤◌, ◌<◌, ◌+◌, ◌^◌, ◌⊎◌, ℕ, List, [], ◌++◌, length, All, Option, Some, None, Result, Ok, Err}
use Rattle.gn_io.specs.declared.input.InputFault.{InputFault}
use Rattle.gn_io.specs.declared.input.InputFault.TheVariants as fault
use Rattle.gn_capture.specs.Histories.{ending}
use Rattle.gn_stream.specs.declared.ending.Ending.{Ending}
use Rattle.gn_stream.specs.declared.ending.Ending.TheVariants.{Own, Due, Stands, Added}
use Rattle.gn_stream.specs.Left.{IsCutOf, IsFirst, Left, line_limit}
use Rattle.gn_stream.specs.Reading.{HasEnded, HasGiven, IsReadingFault, Passes, Place, Reading}

-- bytes of the text are gone over, those of this part
pub record TakesOn (part : List ℕ) (old new : Place) : Type 0 where
  pub bytes : List ℕ
  pub given : HasGiven old.source new.source bytes
  pub ended : HasEnded old new bytes
  pub taken : old.reading.held ++ bytes ≡ part ++ new.reading.held
  pub next : new.reading.next ≡ old.reading.next
  pub ending : new.reading.ending ≡ old.reading.ending

-- a line is longer than a line may be, or its number is the last of 64 bits
abbrev pub IsOver : Reading → Type 0
IsOver reading = (line_limit < length reading.line) ⊎ (2 ^ 64 ≤ reading.next + 1)

-- no line is left
pub record AreNone (old new : Left) : Type 0 where
  pub none : old.lines ≡ []
  pub still : new.lines ≡ []
  pub first : new.first ≡ old.first
  pub cut : IsCutOf old new
  pub lacks : new.lacks ≡ old.lacks

-- a line that is short was counted: it is the one that was given last
pub record IsCounted (number : ℕ) (line : List ℕ) (old new : Reading) : Type 0 where
  pub counted : number ≡ old.next
  pub next : new.next ≡ number + 1
  pub given : new.line ≡ line
  pub short : length line ≤ line_limit
  pub held : new.held ≡ old.held
  pub is_ended : new.is_ended ≡ old.is_ended

-- nothing changed but how the lines end
pub record IsKept (old new : Reading) : Type 0 where
  pub next : new.next ≡ old.next
  pub held : new.held ≡ old.held
  pub is_ended : new.is_ended ≡ old.is_ended
  pub ending : new.ending ≡ old.ending

-- why none is: a line is longer than a line may be, or its number is the last of 64 bits; or memory ran out
abbrev pub IsLastFault : Ending → InputFault → Reading → Reading → Type 0
IsLastFault ends fault.Read old new = ⊥
IsLastFault ends fault.NoMemory old new = Unit {0}
IsLastFault Own fault.TooLarge old new = IsKept old new × IsOver old × (0 < length old.line)
IsLastFault Due fault.TooLarge old new = IsKept old new × (2 ^ 64 ≤ old.next + 1)
IsLastFault Stands fault.TooLarge old new = ⊥
IsLastFault Added fault.TooLarge old new = ⊥

-- what is given of a line that no line feed ends: itself, where lines end as they stand; `end`, where it is due; else nothing
abbrev pub IsLastOf : Ending → Result (Option ℕ) InputFault → Reading → Reading → Type 0
IsLastOf ends (Err why) old new = IsLastFault ends why old new
IsLastOf Own (Ok (Some number)) old new = (0 < length old.line) × IsCounted number old.line old new × (new.ending ≡ Own)
IsLastOf Own (Ok None) old new = (old.line ≡ []) × IsKept old new
IsLastOf Due (Ok (Some number)) old new = IsCounted number ending old new × (new.ending ≡ Added)
IsLastOf Due (Ok None) old new = ⊥
IsLastOf Stands (Ok (Some number)) old new = ⊥
IsLastOf Stands (Ok None) old new = IsKept old new
IsLastOf Added (Ok (Some number)) old new = ⊥
IsLastOf Added (Ok None) old new = IsKept old new

-- the first line was given, or there is none
abbrev pub IsLineRead : Result (Option ℕ) InputFault → Place → Place → Type 0
IsLineRead (Ok (Some number)) old new = Passes (IsFirst number new.reading.line) old new
IsLineRead (Ok None) old new = Passes AreNone old new
IsLineRead (Err fault) old new = IsReadingFault fault old new
