use Rattle.gn_stream.specs.Reading.{place}
use Rattle.gn_show.proofs.ShowLemmas.{answer_cut, answer_done, answer_early, stopped_cut, stopped_done, stopped_early, written_done, written_early}
use Rattle.gn_show.proofs.showing.show_steps.Goals as goal

pub returns-then-is_cut-clause-answer : goal.returns-then-is_cut-clause-answer
returns-then-is_cut-clause-answer g c =
    answer_early c.args.form (place (g.S.Source.state c.args.source.now) c.new-lines.result) (place (g.S.Source.state c.show_lines-shown.new.source) c.show_lines-shown.new.lines)
    (g.W.Sink.state c.args.sink.now) (g.W.Sink.state c.show_lines-shown.new.sink) (g.W.Sink.state c.show_lines-shown.new.sink) c.show_lines-shown.new.self.block c.new-lines.ensures c.show_lines-shown.result (c.is_cut.ensures.cut c.if-is_cut.true) c.show_lines-shown.ensures.fault

pub returns-then-is_cut-clause-written : goal.returns-then-is_cut-clause-written
returns-then-is_cut-clause-written g c =
    written_early c.args.form (place (g.S.Source.state c.args.source.now) c.new-lines.result) (place (g.S.Source.state c.show_lines-shown.new.source) c.show_lines-shown.new.lines)
    (g.W.Sink.state c.args.sink.now) (g.W.Sink.state c.show_lines-shown.new.sink) (g.W.Sink.state c.show_lines-shown.new.sink) c.show_lines-shown.new.self.block c.new-lines.ensures c.show_lines-shown.result (c.is_cut.ensures.cut c.if-is_cut.true)

pub returns-then-is_cut-clause-stopped : goal.returns-then-is_cut-clause-stopped
returns-then-is_cut-clause-stopped g c =
    stopped_early c.args.form (place (g.S.Source.state c.args.source.now) c.new-lines.result) (place (g.S.Source.state c.show_lines-shown.new.source) c.show_lines-shown.new.lines)
    (g.W.Sink.state c.args.sink.now) (g.W.Sink.state c.show_lines-shown.new.sink) (g.W.Sink.state c.show_lines-shown.new.sink) c.show_lines-shown.new.self.block c.new-lines.ensures c.show_lines-shown.result (c.is_cut.ensures.cut c.if-is_cut.true) c.show_lines-shown.ensures.part

pub returns-in_err-write_rest-clause-answer : goal.returns-in_err-write_rest-clause-answer
returns-in_err-write_rest-clause-answer g c =
    answer_cut c.args.form (place (g.S.Source.state c.args.source.now) c.new-lines.result) (place (g.S.Source.state c.show_lines-shown.new.source) c.show_lines-shown.new.lines)
    (g.W.Sink.state c.args.sink.now) (g.W.Sink.state c.show_lines-shown.new.sink) (g.W.Sink.state c.write_rest.new.sink) c.show_lines-shown.new.self.block c.new-lines.ensures c.from_residual.result c.show_lines-shown.result c.from_residual.ensures.1 (c.is_cut.ensures.other c.if-is_cut.false)
    c.show_lines-shown.ensures.writes c.in_err-write_rest.ensures.cause

pub returns-in_err-write_rest-clause-stopped : goal.returns-in_err-write_rest-clause-stopped
returns-in_err-write_rest-clause-stopped g c =
    stopped_cut c.args.form (place (g.S.Source.state c.args.source.now) c.new-lines.result) (place (g.S.Source.state c.show_lines-shown.new.source) c.show_lines-shown.new.lines)
    (g.W.Sink.state c.args.sink.now) (g.W.Sink.state c.show_lines-shown.new.sink) (g.W.Sink.state c.write_rest.new.sink) c.show_lines-shown.new.self.block c.new-lines.ensures c.from_residual.result c.from_residual.ensures.1 c.show_lines-shown.ensures.part c.in_err-write_rest.ensures.err

pub returns-clause-answer : goal.returns-clause-answer
returns-clause-answer g c =
    answer_done c.args.form (place (g.S.Source.state c.args.source.now) c.new-lines.result) (place (g.S.Source.state c.show_lines-shown.new.source) c.show_lines-shown.new.lines)
    (g.W.Sink.state c.args.sink.now) (g.W.Sink.state c.show_lines-shown.new.sink) (g.W.Sink.state c.write_rest.new.sink) c.show_lines-shown.new.self.block c.new-lines.ensures c.show_lines-shown.result c.show_lines-shown.ensures.shown c.show_lines-shown.ensures.fault
    c.show_lines-shown.ensures.writes c.in_ok-write_rest.ensures.unfailed

pub returns-clause-written : goal.returns-clause-written
returns-clause-written g c =
    written_done c.args.form (place (g.S.Source.state c.args.source.now) c.new-lines.result) (place (g.S.Source.state c.show_lines-shown.new.source) c.show_lines-shown.new.lines)
    (g.W.Sink.state c.args.sink.now) (g.W.Sink.state c.show_lines-shown.new.sink) (g.W.Sink.state c.write_rest.new.sink) c.show_lines-shown.new.self.block c.new-lines.ensures c.show_lines-shown.result c.show_lines-shown.ensures.shown c.in_ok-write_rest.ensures.ok

pub returns-clause-stopped : goal.returns-clause-stopped
returns-clause-stopped g c =
    stopped_done c.args.form (place (g.S.Source.state c.args.source.now) c.new-lines.result) (place (g.S.Source.state c.show_lines-shown.new.source) c.show_lines-shown.new.lines)
    (g.W.Sink.state c.args.sink.now) (g.W.Sink.state c.show_lines-shown.new.sink) (g.W.Sink.state c.write_rest.new.sink) c.show_lines-shown.new.self.block c.new-lines.ensures c.show_lines-shown.result c.show_lines-shown.ensures.fault c.show_lines-shown.ensures.part c.in_ok-write_rest.ensures.ok
