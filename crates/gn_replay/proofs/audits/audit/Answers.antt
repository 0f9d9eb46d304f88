use Rattle.gn_capture.specs.Histories.{history_of}
use Rattle.gn_io.specs.Streams.{streams}
use Rattle.gn_stream.specs.Left.{all_lines}
use Rattle.gn_replay.specs.Faults.{of_stream}
use Rattle.gn_replay.specs.declared.fault.ReplayFault.TheVariants.{NoMemory}
use Rattle.gn_replay.proofs.ExplainedLemmas.{audit_done, audit_refused, audit_unwritten, judged_valid, stopped_before, verdict_in_part, verdict_written}
use Rattle.gn_replay.proofs.audits.audit.Goals as goal

pub returns-in_err-judgement-clause-answer : goal.returns-in_err-judgement-clause-answer
returns-in_err-judgement-clause-answer g c =
    audit_refused all_lines (history_of {A = g.row.A.Denot})
    (streams (g.S.Source.state c.args.source.now) (g.S.Source.state c.judge_source.new.source) (g.W.Sink.state c.args.sink.now) (g.W.Sink.state c.args.sink.now))
    c.from_residual.result (of_stream c.in_err-judgement.field-0.0) c.from_residual.ensures.1 c.in_err-judgement.ensures.fault

pub returns-in_err-judgement-clause-stopped : goal.returns-in_err-judgement-clause-stopped
returns-in_err-judgement-clause-stopped g c =
    (stopped_before all_lines (history_of {A = g.row.A.Denot}) g.row.A.Denot c.from_residual.result (of_stream c.in_err-judgement.field-0.0)
    (g.S.Source.state c.args.source.now) (g.S.Source.state c.judge_source.new.source) _ (g.W.Sink.state c.args.sink.now).written
    c.from_residual.ensures.1 c.in_err-judgement.ensures.fault).0

pub returns-in_err-line-clause-answer : goal.returns-in_err-line-clause-answer
returns-in_err-line-clause-answer g c =
    audit_refused all_lines (history_of {A = g.row.A.Denot})
    (streams (g.S.Source.state c.args.source.now) (g.S.Source.state c.judge_source.new.source) (g.W.Sink.state c.args.sink.now) (g.W.Sink.state c.args.sink.now))
    c.from_residual-in_err-line.result NoMemory c.from_residual-in_err-line.ensures.1 tt

pub returns-in_err-line-clause-stopped : goal.returns-in_err-line-clause-stopped
returns-in_err-line-clause-stopped g c =
    (stopped_before all_lines (history_of {A = g.row.A.Denot}) g.row.A.Denot c.from_residual-in_err-line.result NoMemory
    (g.S.Source.state c.args.source.now) (g.S.Source.state c.judge_source.new.source) _ (g.W.Sink.state c.args.sink.now).written
    c.from_residual-in_err-line.ensures.1 tt).0

pub returns-in_err-write_all-clause-answer : goal.returns-in_err-write_all-clause-answer
returns-in_err-write_all-clause-answer g c =
    audit_unwritten all_lines (history_of {A = g.row.A.Denot})
    (streams (g.S.Source.state c.args.source.now) (g.S.Source.state c.judge_source.new.source) (g.W.Sink.state c.args.sink.now) (g.W.Sink.state c.write_all.new.sink))
    c.from_residual-in_err-write_all.result c.from_residual-in_err-write_all.ensures.1
    (judged_valid _ c.in_ok-judgement.judgement c.in_ok-judgement.steps c.in_ok-judgement.ensures.judged) c.in_err-write_all.ensures.cause

pub returns-in_err-write_all-clause-stopped : goal.returns-in_err-write_all-clause-stopped
returns-in_err-write_all-clause-stopped g c =
    verdict_in_part c.from_residual-in_err-write_all.result _ c.in_ok-judgement.judgement c.in_ok-judgement.steps c.legality-legality.result c.deref.result.now c.in_ok-line.line.items
    (g.W.Sink.state c.args.sink.now).written (g.W.Sink.state c.write_all.new.sink).written c.from_residual-in_err-write_all.ensures.1 c.in_ok-judgement.ensures.judged
    c.legality-legality.ensures c.in_ok-line.ensures c.deref.ensures.value c.in_err-write_all.ensures.err

pub returns-clause-answer : goal.returns-clause-answer
returns-clause-answer g c =
    audit_done all_lines (history_of {A = g.row.A.Denot})
    (streams (g.S.Source.state c.args.source.now) (g.S.Source.state c.judge_source.new.source) (g.W.Sink.state c.args.sink.now) (g.W.Sink.state c.write_all.new.sink))
    c.legality-legality.result (judged_valid _ c.in_ok-judgement.judgement c.in_ok-judgement.steps c.in_ok-judgement.ensures.judged) (c.in_ok-judgement.ensures.unfailed, c.in_ok-write_all.ensures.unfailed)

pub returns-clause-written : goal.returns-clause-written
returns-clause-written g c =
    verdict_written _ c.in_ok-judgement.judgement c.in_ok-judgement.steps c.legality-legality.result c.deref.result.now c.in_ok-line.line.items
    (g.W.Sink.state c.args.sink.now).written (g.W.Sink.state c.write_all.new.sink).written c.in_ok-judgement.ensures.judged
    c.legality-legality.ensures c.in_ok-line.ensures c.deref.ensures.value c.in_ok-write_all.ensures.ok
