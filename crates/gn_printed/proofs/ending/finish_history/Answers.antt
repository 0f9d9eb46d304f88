use Rattle.std.proofs.Common.{◌≡◌, ◌++◌, codes, Result, Ok, Err, OnErr, OnOk, subst, sym}
use Rattle.std.specs.Io.KnownBytes.{Appends}
use Rattle.std.specs.Prelude.{⊤, IfErr}
use Rattle.gn_io.specs.Parts.{AppendsPart}
use Rattle.gn_io.specs.Streams.{NoWriteFailed, SinkState}
use Rattle.gn_printed.specs.declared.ending.Waiting.{Waiting}
use Rattle.gn_printed.specs.declared.printed.PrintFault.{PrintFault}
use Rattle.gn_printed.specs.Printed.{IsPrintFault}
use Rattle.gn_printed.specs.Finished.{HasFinished}
use Rattle.gn_printed.proofs.ending.finish_history.Goals as goal

-- what was finished, by the answer and by what waited
finished_by : {A : Type 0} (old new : SinkState) (waits : Result (Waiting A) PrintFault) (waiting : Waiting A) (r : Result ⊤ PrintFault) → waits ≡ Ok waiting
    → OnOk r (Appends old.written new.written (waiting.block ++ codes "end\n")) → OnErr r (AppendsPart old.written new.written (waiting.block ++ codes "end\n"))
    → IfErr r (λ fault. IsPrintFault fault old new) → OnOk r (NoWriteFailed old new) → HasFinished old new waits r
finished_by {A} old new waits waiting (Ok done) is all part cause unfailed = subst (λ (w : Result (Waiting A) PrintFault). HasFinished old new w (Ok done)) (sym is) (all, unfailed)
finished_by {A} old new waits waiting (Err fault) is all part cause unfailed = subst (λ (w : Result (Waiting A) PrintFault). HasFinished old new w (Err fault)) (sym is) (part, cause)

pub returns-in-Ok : goal.returns-in-Ok
returns-in-Ok g c =
    finished_by (g.W.Sink.state c.args.sink.now) (g.W.Sink.state c.write_end.new.sink) c.args.waiting c.in-Ok.field-0 c.write_end.result c.in-Ok.is
    c.write_end.ensures.ok c.write_end.ensures.err c.write_end.ensures.cause c.write_end.ensures.unfailed
