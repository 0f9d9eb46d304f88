-- A writer of rows between two rows.
use Rattle.std.specs.Prelude.{◌≡◌, false, []}
use Rattle.csv.specs.Writing.{default_writer, fields_written, has_written, writer_pending, writer_setup}
use Rattle.csv.specs.declared.writer.Writer.{Writer}

-- a writer with the defaults has written out all that it was given, and the next row has no field yet
abbrev pub IsClean : {W : Type 0} → Writer W → Type 0
IsClean w = (writer_setup w ≡ default_writer) × (writer_pending w ≡ []) × (fields_written w ≡ 0) × (has_written w ≡ false)
