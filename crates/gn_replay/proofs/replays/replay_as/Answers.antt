use Rattle.gn_io.specs.Streams.{text_between}
use Rattle.gn_replay.proofs.PrintedLemmas.{input_stopped, input_written, unread_stopped}
use Rattle.gn_replay.proofs.replays.replay_as.Goals as goal

pub returns-in_err-text-clause-stopped : goal.returns-in_err-text-clause-stopped
returns-in_err-text-clause-stopped g c =
    unread_stopped g.row.A.Denot c.args.form c.from_residual.result c.in_err-text.field-0.0 (text_between (g.S.Source.state c.args.source.now) (g.S.Source.state c.read_input.new.source))
    (g.W.Sink.state c.args.sink.now).written c.from_residual.ensures.1

pub returns-clause-written : goal.returns-clause-written
returns-clause-written g c =
    input_written g.row.A.Denot c.args.form c.replay_text.result c.in_ok-text.text.items (text_between (g.S.Source.state c.args.source.now) (g.S.Source.state c.read_input.new.source))
    (g.W.Sink.state c.args.sink.now).written (g.W.Sink.state c.replay_text.new.sink).written c.in_ok-text.ensures.all c.replay_text.ensures.written

pub returns-clause-stopped : goal.returns-clause-stopped
returns-clause-stopped g c =
    input_stopped g.row.A.Denot c.args.form c.replay_text.result c.in_ok-text.text.items (text_between (g.S.Source.state c.args.source.now) (g.S.Source.state c.read_input.new.source))
    (g.W.Sink.state c.args.sink.now).written (g.W.Sink.state c.replay_text.new.sink).written c.in_ok-text.ensures.all c.replay_text.ensures.stopped
