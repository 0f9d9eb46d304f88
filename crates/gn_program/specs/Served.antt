-- What a serve comes to, by what its run answered.
use Rattle.std.specs.Prelude.{Some, Result, Ok, Err}
use Rattle.std.specs.declared.alloc.Global.{Global}
use Rattle.gn_load.specs.declared.serve_halted.ServeHalted.{ServeHalted}
use Rattle.gn_load.specs.declared.taken.Taken.{Taken}
use Rattle.gn_service.specs.Ran.{Remembered}
use Rattle.gn_program.specs.declared.serves.Served.{Served}

-- what is answered where a run stopped, and what is remembered of it
abbrev pub halted_served : ServeHalted Global → Served
halted_served halted = record { answer = Err halted.fault; ran = halted.ran }

-- what is answered where a run answered so
abbrev pub served_by : Result (Taken Global × Remembered Global) (ServeHalted Global) → Served
served_by (Ok done) = record { answer = Ok tt; ran = Some done.1 }
served_by (Err halted) = halted_served halted
