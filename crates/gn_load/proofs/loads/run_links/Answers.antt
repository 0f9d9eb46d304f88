use denote.Param.Send.{sendable}
use Rattle.gn_load.proofs.SendLemmas.{reader_send, writer_send}
use Rattle.gn_replay.specs.Faults.{of_refusal}
use Rattle.gn_load.specs.declared.fault.LoadFault.TheVariants.{Run, Text}
use Rattle.gn_load.specs.Faults.{IsRunLoadFault}
use Rattle.gn_load.specs.Loads.{load_of}
use Rattle.gn_load.proofs.LoadLemmas.{halves_made, history_printed, none_split, on_err, refused_run, refused_text}
use Rattle.gn_load.proofs.loads.run_links.Goals as goal

pub returns-in_err-config-clause-fault : goal.returns-in_err-config-clause-fault
returns-in_err-config-clause-fault g c =
    on_err c.from_residual.result (Text (of_refusal c.in_err-config.field-0.0)) (λ fault. IsRunLoadFault c.args.workers fault (load_of g.row.A.Denot c.args.text.items))
    c.from_residual.ensures.1 (refused_text c.args.workers c.in_err-config.field-0.0 (load_of g.row.A.Denot c.args.text.items) c.in_err-config.ensures.read)

pub returns-in_err-report-clause-fault : goal.returns-in_err-report-clause-fault
returns-in_err-report-clause-fault g c =
    on_err c.from_residual-in_err-report.result (Run c.in_err-report.field-0.0) (λ fault. IsRunLoadFault c.args.workers fault (load_of g.row.A.Denot c.args.text.items))
    c.from_residual-in_err-report.ensures.1
    (refused_run g.row.A.Denot c.args.text.items c.in_ok-config.config c.in_ok-config.links.items c.in_ok-config.ensures.read c.args.workers c.in_err-report.field-0.0 c.in_err-report.ensures.answer.bad_workers
    (λ crew. none_split c.in_ok-config.links.items c.args.workers c.in_err-report.field-0.0 (c.in_err-report.ensures.answer.fault crew)))

pub returns-clause-history : goal.returns-clause-history
returns-clause-history g c =
    let ran = c.in_ok-report.ensures in
    history_printed g.row.A.Denot c.args.text.items c.in_ok-config.config c.in_ok-config.links.items c.in_ok-config.ensures.read c.args.workers 1 c.in_ok-report.report ran.answer.holds ran.bytes
    (halves_made c.in_ok-config.links.items c.in_ok-report.report ran.answer.made) ran.answer.crew

pub run-requires-send-K-Reader : goal.run-requires-send-K-Reader
run-requires-send-K-Reader g c κs within = search (sendable, reader_send) depth 40

pub run-requires-send-K-Writer : goal.run-requires-send-K-Writer
run-requires-send-K-Writer g c κs within = search (sendable, writer_send) depth 40
