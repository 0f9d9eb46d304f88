use Rattle.std.proofs.Common.{◌∙◌}
use Rattle.std.specs.declared.alloc.Global.{Global}
use Rattle.gn_capture.specs.Histories.{history_of}
use Rattle.gn_io.specs.Streams.{streams}
use Rattle.gn_stream.specs.Left.{all_lines}
use Rattle.gn_replay.specs.Faults.{of_stream}
use Rattle.gn_replay.specs.declared.fault.ReplayFault.TheVariants.{NoMemory}
use Rattle.gn_replay.proofs.ExplainedLemmas.{audit_done, audit_refused, audit_unwritten}
use Rattle.gn_show.proofs.CountLemmas.{counted_valid, of_audit, stats_cut, stats_none, stats_shown}
use Rattle.gn_show.proofs.stats.show_stats.Goals as goal

pub returns-in_err-stats-clause-answer : goal.returns-in_err-stats-clause-answer
returns-in_err-stats-clause-answer g c =
    of_audit _ c.from_residual.result
    (audit_refused all_lines (history_of {A = Global}) (streams (g.S.Source.state c.args.source.now) (g.S.Source.state c.count_source.new.source) (g.W.Sink.state c.args.sink.now) (g.W.Sink.state c.args.sink.now)) c.from_residual.result (of_stream c.in_err-stats.field-0.0) c.from_residual.ensures.1 c.in_err-stats.ensures.fault)

pub returns-in_err-stats-clause-stopped : goal.returns-in_err-stats-clause-stopped
returns-in_err-stats-clause-stopped g c =
    stats_none c.from_residual.result (of_stream c.in_err-stats.field-0.0) (g.S.Source.state c.args.source.now) (g.S.Source.state c.count_source.new.source) _
    (g.W.Sink.state c.args.sink.now).written c.from_residual.ensures.1 c.in_err-stats.ensures.fault

pub returns-in_err-line-clause-answer : goal.returns-in_err-line-clause-answer
returns-in_err-line-clause-answer g c =
    of_audit _ c.from_residual-in_err-line.result
    (audit_refused all_lines (history_of {A = Global}) (streams (g.S.Source.state c.args.source.now) (g.S.Source.state c.count_source.new.source) (g.W.Sink.state c.args.sink.now) (g.W.Sink.state c.args.sink.now)) c.from_residual-in_err-line.result NoMemory c.from_residual-in_err-line.ensures.1 tt)

pub returns-in_err-line-clause-stopped : goal.returns-in_err-line-clause-stopped
returns-in_err-line-clause-stopped g c =
    stats_none c.from_residual-in_err-line.result NoMemory (g.S.Source.state c.args.source.now) (g.S.Source.state c.count_source.new.source) _
    (g.W.Sink.state c.args.sink.now).written c.from_residual-in_err-line.ensures.1 tt

pub returns-in_err-write_all-clause-answer : goal.returns-in_err-write_all-clause-answer
returns-in_err-write_all-clause-answer g c =
    of_audit _ c.from_residual-in_err-write_all.result
    (audit_unwritten all_lines (history_of {A = Global}) (streams (g.S.Source.state c.args.source.now) (g.S.Source.state c.count_source.new.source) (g.W.Sink.state c.args.sink.now) (g.W.Sink.state c.write_all.new.sink)) c.from_residual-in_err-write_all.result c.from_residual-in_err-write_all.ensures.1
    (counted_valid c.in_ok-stats.stats _ c.in_ok-stats.ensures.counted) c.in_err-write_all.ensures.cause)

pub returns-in_err-write_all-clause-stopped : goal.returns-in_err-write_all-clause-stopped
returns-in_err-write_all-clause-stopped g c =
    stats_cut c.in_ok-stats.stats c.deref.result.now c.from_residual-in_err-write_all.result _ (g.W.Sink.state c.args.sink.now).written (g.W.Sink.state c.write_all.new.sink).written
    c.from_residual-in_err-write_all.ensures.1 (c.deref.ensures.value ∙ c.in_ok-line.ensures) c.in_ok-stats.ensures.counted c.in_err-write_all.ensures.err

pub returns-clause-answer : goal.returns-clause-answer
returns-clause-answer g c =
    of_audit _ _
    (audit_done all_lines (history_of {A = Global}) (streams (g.S.Source.state c.args.source.now) (g.S.Source.state c.count_source.new.source) (g.W.Sink.state c.args.sink.now) (g.W.Sink.state c.write_all.new.sink)) _ (counted_valid c.in_ok-stats.stats _ c.in_ok-stats.ensures.counted) (c.in_ok-stats.ensures.unfailed, c.in_ok-write_all.ensures.unfailed))

pub returns-clause-written : goal.returns-clause-written
returns-clause-written g c =
    stats_shown c.in_ok-stats.stats c.deref.result.now _ (g.W.Sink.state c.args.sink.now).written (g.W.Sink.state c.write_all.new.sink).written
    (c.deref.ensures.value ∙ c.in_ok-line.ensures) c.in_ok-stats.ensures.counted c.in_ok-write_all.ensures.ok
