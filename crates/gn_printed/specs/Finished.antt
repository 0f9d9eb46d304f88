-- How the text of a history ends.
use Rattle.std.specs.Prelude.{◌≡◌, ⊤, ◌++◌, codes, Result, Ok, Err}
use Rattle.std.specs.Io.KnownBytes.{Appends}
use Rattle.gn_io.specs.Parts.{AppendsPart}
use Rattle.gn_io.specs.Streams.{NoWriteFailed, SinkState}
use Rattle.gn_printed.specs.declared.ending.Waiting.{Waiting}
use Rattle.gn_printed.specs.declared.printed.PrintFault.{PrintFault}
use Rattle.gn_printed.specs.Printed.{IsPrintFault}

-- what waited of a text and the line `end` were written, or a prefix of that, for a fault; where the text couldn't be written before, nothing was
abbrev pub HasFinished : {A : Type 0} → SinkState → SinkState → Result (Waiting A) PrintFault → Result ⊤ PrintFault → Type 0
HasFinished old new (Ok waiting) (Ok x) = Appends old.written new.written (waiting.block ++ codes "end\n") × NoWriteFailed old new
HasFinished old new (Ok waiting) (Err fault) = AppendsPart old.written new.written (waiting.block ++ codes "end\n") × IsPrintFault fault old new
HasFinished old new (Err first) (Ok x) = ⊥
HasFinished old new (Err first) (Err fault) = (new ≡ old) × (fault ≡ first)
