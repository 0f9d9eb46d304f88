use Rattle.std.proofs.Common.{◌≡◌, ◌≤◌, Err, Result, inr, length, subst}
use Rattle.std.specs.Prelude.{IfErr, IsOk, OnErr}
use Rattle.std.specs.Io.KnownBytes.{Appends}
use Rattle.gn_capture.specs.Histories.{history_text}
use Rattle.gn_io.specs.Input.{input_limit}
use Rattle.gn_io.specs.Parts.{AppendsPart}
use Rattle.gn_io.specs.Streams.{HasWriteFailed, SinkState}
use Rattle.gn_replay.specs.Faults.{of_input}
use Rattle.gn_load.specs.declared.fault.LoadFault.TheVariants.{Text}
use Rattle.gn_load.specs.Loads.{AppendsLoad, AppendsLoadPart, load_of}
use Rattle.gn_printed.specs.Printed.{IsPrintFault}
use Rattle.gn_printed.specs.declared.printed.PrintFault.{PrintFault}
use Rattle.gn_printed.specs.declared.printed.PrintFault.TheVariants.{Write}
use Rattle.gn_load.proofs.LoadLemmas.{is_read, of_known, on_err, stopped_unloaded, stopped_unread, unloaded, unread}
use Rattle.gn_load.proofs.loads.load_watched.Goals as goal

-- a text that wasn't written since a write failed
write_failed : (r : Result (Unit {0}) PrintFault) (fault : PrintFault) (old new : SinkState) → r ≡ Err fault → fault ≡ Write → IfErr r (λ f. IsPrintFault f old new) → HasWriteFailed old new
write_failed r fault old new is write cause =
    subst (λ (f : PrintFault). IsPrintFault f old new) write (subst (λ (x : Result (Unit {0}) PrintFault). IfErr x (λ f. IsPrintFault f old new)) is cause)

pub returns-in_err-text-clause-stopped : goal.returns-in_err-text-clause-stopped
returns-in_err-text-clause-stopped g c =
    on_err c.from_residual.result (Text (of_input c.in_err-text.field-0.0)) _ c.from_residual.ensures.1
    (stopped_unread g.row.A.Denot 1 c.args.workers c.in_err-text.field-0.0 _ (g.W.Sink.state c.args.sink.now).written)

pub returns-in_err-text-clause-fault : goal.returns-in_err-text-clause-fault
returns-in_err-text-clause-fault g c =
    on_err c.from_residual.result (Text (of_input c.in_err-text.field-0.0)) _ c.from_residual.ensures.1
    (unread c.args.workers c.in_err-text.field-0.0 (load_of g.row.A.Denot) _ c.in_err-text.ensures.fault)

pub returns-in_err-config-clause-stopped : goal.returns-in_err-config-clause-stopped
returns-in_err-config-clause-stopped g c =
    on_err c.from_residual-in_err-config.result c.in_err-config.field-0.0 _ c.from_residual-in_err-config.ensures.1
    (stopped_unloaded g.row.A.Denot 1 c.args.workers c.in_err-config.field-0.0 (load_of g.row.A.Denot c.in_ok-text.text.items) _
    (g.W.Sink.state c.args.sink.now).written c.in_err-config.ensures.fault)

pub returns-in_err-config-clause-fault : goal.returns-in_err-config-clause-fault
returns-in_err-config-clause-fault g c =
    on_err c.from_residual-in_err-config.result c.in_err-config.field-0.0 _ c.from_residual-in_err-config.ensures.1
    (unloaded c.args.workers c.in_err-config.field-0.0 c.in_ok-text.text.items (load_of g.row.A.Denot) _ c.in_ok-text.ensures.all c.in_ok-text.ensures.short
    c.in_err-config.ensures.fault)

pub returns-in-Ok-clause-short : goal.returns-in-Ok-clause-short
returns-in-Ok-clause-short g c =
    of_known _ c.in_ok-text.text.items (λ input. length input ≤ input_limit) c.in_ok-text.ensures.all c.in_ok-text.ensures.short

pub returns-in-Ok-clause-unfailed : goal.returns-in-Ok-clause-unfailed
returns-in-Ok-clause-unfailed g c = (c.in_ok-text.ensures.unfailed, c.in-Ok.ensures.unfailed)

pub returns-in-Ok-clause-written : goal.returns-in-Ok-clause-written
returns-in-Ok-clause-written g c =
    let old = (g.W.Sink.state c.args.sink.now).written in
    let new = (g.W.Sink.state c.print_history-printed.new.sink).written in
    let config = c.in_ok-config.config in
    of_known _ c.in_ok-text.text.items (λ input. AppendsLoad g.row.A.Denot 1 c.args.workers input old new) c.in_ok-text.ensures.all
    (history_text config c.in_ok-config.report.history.items, c.in_ok-config.ensures.history, subst (λ steps. Appends old new (history_text config steps)) c.deref.ensures.value c.in-Ok.ensures.ok)

pub returns-in-Err-Write-clause-stopped : goal.returns-in-Err-Write-clause-stopped
returns-in-Err-Write-clause-stopped g c =
    let old = (g.W.Sink.state c.args.sink.now).written in
    let new = (g.W.Sink.state c.print_history-printed.new.sink).written in
    let config = c.in_ok-config.config in
    let printed = subst (λ printed. OnErr printed (AppendsPart old new (history_text config c.deref.result.now))) c.in-Err-Write.is c.print_history-printed.ensures.err in
    of_known _ c.in_ok-text.text.items (λ input. AppendsLoadPart g.row.A.Denot 1 c.args.workers input old new) c.in_ok-text.ensures.all
    (history_text config c.in_ok-config.report.history.items, c.in_ok-config.ensures.history, subst (λ steps. AppendsPart old new (history_text config steps)) c.deref.ensures.value printed)

pub returns-in-Err-Write-clause-fault : goal.returns-in-Err-Write-clause-fault
returns-in-Err-Write-clause-fault g c = (
  of_known _ c.in_ok-text.text.items (λ input. (length input ≤ input_limit) × IsOk (load_of g.row.A.Denot input)) c.in_ok-text.ensures.all
      (c.in_ok-text.ensures.short, is_read _ _ c.in_ok-config.ensures.history.read),
  write_failed c.print_history-printed.result c.in-Err-Write.field-0 (g.W.Sink.state c.args.sink.now) (g.W.Sink.state c.print_history-printed.new.sink) c.in-Err-Write.is
      (rw c.in-Err-Write.is at c.in-Err-Write.field-0-is) c.print_history-printed.ensures.cause,
)

pub returns-in-Err-NoMemory-clause-stopped : goal.returns-in-Err-NoMemory-clause-stopped
returns-in-Err-NoMemory-clause-stopped g c =
    let old = (g.W.Sink.state c.args.sink.now).written in
    let new = (g.W.Sink.state c.print_history-printed.new.sink).written in
    let config = c.in_ok-config.config in
    let printed = subst (λ printed. OnErr printed (AppendsPart old new (history_text config c.deref.result.now))) c.in-Err-NoMemory.is c.print_history-printed.ensures.err in
    inr (of_known _ c.in_ok-text.text.items (λ input. AppendsLoadPart g.row.A.Denot 1 c.args.workers input old new) c.in_ok-text.ensures.all
    (history_text config c.in_ok-config.report.history.items, c.in_ok-config.ensures.history, subst (λ steps. AppendsPart old new (history_text config steps)) c.deref.ensures.value printed))

pub returns-in-Ok-clause-valid : goal.returns-in-Ok-clause-valid
returns-in-Ok-clause-valid g c =
    of_known _ c.in_ok-text.text.items (λ input. IsOk (load_of g.row.A.Denot input)) c.in_ok-text.ensures.all
    (is_read _ _ c.in_ok-config.ensures.history.read)
