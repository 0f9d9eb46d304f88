-- What a line says of which the local servent sends a descriptor.
use Rattle.std.specs.Prelude.{Result, Ok}
use Rattle.gn_wire.specs.Packet.{Packet}
use Rattle.gn_numbers.specs.declared.causes.Cause.{Cause}
use Rattle.gn_text.specs.Faults.{◌>>=◌}
use Rattle.gn_capture.specs.declared.line.Line.{Line}
use Rattle.gn_capture.specs.declared.line.Line.TheVariants.{Originate}

-- the line of a descriptor, where its fields say one
abbrev pub originated : {A : Type 0} → Result Packet Cause → Result (Line A) Cause
originated read = read >>= λ descriptor. Ok (Originate descriptor)
