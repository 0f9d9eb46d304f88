use Rattle.gn_io.specs.Streams.{streams}
use Rattle.gn_stream.specs.Left.{finished_lines}
use Rattle.gn_replay.specs.Audits.{cut_history_of}
use Rattle.gn_replay.specs.Faults.{of_stream}
use Rattle.gn_replay.specs.declared.fault.ReplayFault.TheVariants.{NoMemory}
use Rattle.gn_replay.proofs.ExplainedLemmas.{audit_done, audit_refused, audit_unwritten, cut_in_part, cut_valid, cut_written, stopped_before}
use Rattle.gn_replay.proofs.audits.audit_unfinished.Goals as goal

pub returns-in_err-judged-clause-answer : goal.returns-in_err-judged-clause-answer
returns-in_err-judged-clause-answer g c =
    audit_refused finished_lines (cut_history_of {A = g.row.A.Denot})
    (streams (g.S.Source.state c.args.source.now) (g.S.Source.state c.judge_cut.new.source) (g.W.Sink.state c.args.sink.now) (g.W.Sink.state c.args.sink.now))
    c.from_residual.result (of_stream c.in_err-judged.field-0.0) c.from_residual.ensures.1 c.in_err-judged.ensures.fault

pub returns-in_err-judged-clause-stopped : goal.returns-in_err-judged-clause-stopped
returns-in_err-judged-clause-stopped g c =
    (stopped_before finished_lines (cut_history_of {A = g.row.A.Denot}) g.row.A.Denot c.from_residual.result (of_stream c.in_err-judged.field-0.0)
    (g.S.Source.state c.args.source.now) (g.S.Source.state c.judge_cut.new.source) _ (g.W.Sink.state c.args.sink.now).written
    c.from_residual.ensures.1 c.in_err-judged.ensures.fault).2

pub returns-in_err-line-clause-answer : goal.returns-in_err-line-clause-answer
returns-in_err-line-clause-answer g c =
    audit_refused finished_lines (cut_history_of {A = g.row.A.Denot})
    (streams (g.S.Source.state c.args.source.now) (g.S.Source.state c.judge_cut.new.source) (g.W.Sink.state c.args.sink.now) (g.W.Sink.state c.args.sink.now))
    c.from_residual-in_err-line.result NoMemory c.from_residual-in_err-line.ensures.1 tt

pub returns-in_err-line-clause-stopped : goal.returns-in_err-line-clause-stopped
returns-in_err-line-clause-stopped g c =
    (stopped_before finished_lines (cut_history_of {A = g.row.A.Denot}) g.row.A.Denot c.from_residual-in_err-line.result NoMemory
    (g.S.Source.state c.args.source.now) (g.S.Source.state c.judge_cut.new.source) _ (g.W.Sink.state c.args.sink.now).written
    c.from_residual-in_err-line.ensures.1 tt).2

pub returns-in_err-write_all-clause-answer : goal.returns-in_err-write_all-clause-answer
returns-in_err-write_all-clause-answer g c =
    audit_unwritten finished_lines (cut_history_of {A = g.row.A.Denot})
    (streams (g.S.Source.state c.args.source.now) (g.S.Source.state c.judge_cut.new.source) (g.W.Sink.state c.args.sink.now) (g.W.Sink.state c.write_all.new.sink))
    c.from_residual-in_err-write_all.result c.from_residual-in_err-write_all.ensures.1 (cut_valid g.row.A.Denot _ c.in_ok-judged.judged c.in_ok-judged.ensures.judged)
    c.in_err-write_all.ensures.cause

pub returns-in_err-write_all-clause-stopped : goal.returns-in_err-write_all-clause-stopped
returns-in_err-write_all-clause-stopped g c =
    cut_in_part g.row.A.Denot c.from_residual-in_err-write_all.result _ c.in_ok-judged.judged c.deref.result.now c.in_ok-line.line.items
    (g.W.Sink.state c.args.sink.now).written (g.W.Sink.state c.write_all.new.sink).written c.from_residual-in_err-write_all.ensures.1 c.in_ok-judged.ensures.judged
    c.in_ok-line.ensures c.deref.ensures.value c.in_err-write_all.ensures.err

pub returns-clause-answer : goal.returns-clause-answer
returns-clause-answer g c =
    audit_done finished_lines (cut_history_of {A = g.row.A.Denot})
    (streams (g.S.Source.state c.args.source.now) (g.S.Source.state c.judge_cut.new.source) (g.W.Sink.state c.args.sink.now) (g.W.Sink.state c.write_all.new.sink))
    _ (cut_valid g.row.A.Denot _ c.in_ok-judged.judged c.in_ok-judged.ensures.judged) (c.in_ok-judged.ensures.unfailed, c.in_ok-write_all.ensures.unfailed)

pub returns-clause-written : goal.returns-clause-written
returns-clause-written g c =
    cut_written g.row.A.Denot _ c.in_ok-judged.judged c.deref.result.now c.in_ok-line.line.items
    (g.W.Sink.state c.args.sink.now).written (g.W.Sink.state c.write_all.new.sink).written c.in_ok-judged.ensures.judged
    c.in_ok-line.ensures c.deref.ensures.value c.in_ok-write_all.ensures.ok
