-- One line of a source that isn't skipped.
use Rattle.std.specs.Prelude.{ℕ, Option, Some, None, Result, Ok, Err}
use Rattle.gn_io.specs.declared.input.InputFault.{InputFault}
use Rattle.gn_stream.specs.Left.{AreSkipped, IsFirstNumbered}
use Rattle.gn_stream.specs.Reading.{IsReadingFault, Passes, Place}

-- the first line that isn't skipped was given, or there is none
abbrev pub IsNumberedRead : Result (Option ℕ) InputFault → Place → Place → Type 0
IsNumberedRead (Ok (Some number)) old new = Passes (IsFirstNumbered number new.reading.line) old new
IsNumberedRead (Ok None) old new = Passes AreSkipped old new
IsNumberedRead (Err fault) old new = IsReadingFault fault old new
