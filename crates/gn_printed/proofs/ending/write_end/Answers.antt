use Rattle.std.proofs.Common.{List, ℕ, refl, subst}
use Rattle.std.specs.Io.KnownBytes.{Appends}
use Rattle.gn_io.specs.Parts.{AppendsPart}
use Rattle.gn_printed.specs.declared.printed.PrintFault.TheVariants.{NoMemory, Write}
use Rattle.gn_printed.proofs.PrintLemmas.{cause_handed, none_written, on_err}
use Rattle.gn_printed.proofs.ending.write_end.Goals as goal

pub returns-in_err-add-clause-err : goal.returns-in_err-add-clause-err
returns-in_err-add-clause-err g c = on_err c.from_residual.result (none_written (g.W.Sink.state c.args.sink.now).written _)

pub returns-in_err-add-clause-cause : goal.returns-in_err-add-clause-cause
returns-in_err-add-clause-cause g c =
    let sink = g.W.Sink.state c.args.sink.now in
    cause_handed c.from_residual.result NoMemory sink sink sink c.from_residual.ensures.1 (refl, refl) (refl, refl)

pub returns-in_err-write_rest-clause-err : goal.returns-in_err-write_rest-clause-err
returns-in_err-write_rest-clause-err g c =
    let old = (g.W.Sink.state c.args.sink.now).written in
    let new = (g.W.Sink.state c.write_rest.new.sink).written in
    on_err c.from_residual-in_err-write_rest.result
    (subst (λ (bytes : List ℕ). AppendsPart old new bytes) c.in_ok-add.ensures.ok c.in_err-write_rest.ensures.err)

pub returns-in_err-write_rest-clause-cause : goal.returns-in_err-write_rest-clause-cause
returns-in_err-write_rest-clause-cause g c =
    let sink = g.W.Sink.state c.args.sink.now in
    cause_handed c.from_residual-in_err-write_rest.result Write sink sink (g.W.Sink.state c.write_rest.new.sink) c.from_residual-in_err-write_rest.ensures.1 (refl, refl)
    c.in_err-write_rest.ensures.cause

pub returns-clause-ok : goal.returns-clause-ok
returns-clause-ok g c =
    let old = (g.W.Sink.state c.args.sink.now).written in
    let new = (g.W.Sink.state c.write_rest.new.sink).written in
    subst (λ (bytes : List ℕ). Appends old new bytes) c.in_ok-add.ensures.ok c.in_ok-write_rest.ensures.ok
