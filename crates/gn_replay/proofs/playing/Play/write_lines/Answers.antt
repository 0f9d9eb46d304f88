use Rattle.std.proofs.Common.{◌++◌}
use Rattle.gn_io.proofs.StreamLemmas.{rest_cut}
use Rattle.gn_replay.specs.Playing.{said}
use Rattle.gn_replay.specs.ReplayText.{capture_plays}
use Rattle.gn_replay.proofs.RunLemmas.{on_err, part_of, run_cut, run_left, run_stopped, run_unended, run_written}
use Rattle.gn_replay.proofs.playing.Play.write_lines.Goals as goal

pub returns-in_err-add-in-Ok-clause-err : goal.returns-in_err-add-in-Ok-clause-err
returns-in_err-add-in-Ok-clause-err g c =
    on_err c.from_residual.result
    (run_unended c.args.self.now.form c.args.block.now (capture_plays c.args.self.now.settings c.args.lines.items) c.args.ending.now c.pass_lines.new.self.past c.pass_lines.new.self.refusals
    (g.W.Sink.state c.args.sink.now).written (g.W.Sink.state c.pass_lines.new.sink).written c.pass_lines.new.block c.in-Ok.ensures.ok)

pub returns-in_err-write_rest-in-Ok-clause-err : goal.returns-in_err-write_rest-in-Ok-clause-err
returns-in_err-write_rest-in-Ok-clause-err g c =
    on_err c.from_residual-in_err-write_rest-in-Ok.result
    (run_cut c.args.self.now.form c.args.block.now (capture_plays c.args.self.now.settings c.args.lines.items) c.args.ending.now c.pass_lines.new.self.past c.pass_lines.new.self.refusals
    (g.W.Sink.state c.args.sink.now).written (g.W.Sink.state c.pass_lines.new.sink).written (g.W.Sink.state c.write_rest.new.sink).written c.pass_lines.new.block c.add.new.self
    c.in-Ok.ensures.ok c.in_ok-add-in-Ok.ensures.ok c.in_err-write_rest-in-Ok.ensures.err)

pub returns-in_ok-write_rest-in-Ok-clause-ok : goal.returns-in_ok-write_rest-in-Ok-clause-ok
returns-in_ok-write_rest-in-Ok-clause-ok g c =
    run_written c.args.self.now.form c.args.block.now (capture_plays c.args.self.now.settings c.args.lines.items) c.args.ending.now c.pass_lines.new.self.past c.pass_lines.new.self.refusals
    (g.W.Sink.state c.args.sink.now).written (g.W.Sink.state c.pass_lines.new.sink).written (g.W.Sink.state c.write_rest.new.sink).written c.pass_lines.new.block c.add.new.self
    c.in-Ok.ensures.ok c.in_ok-add-in-Ok.ensures.ok c.in_ok-write_rest-in-Ok.ensures.ok

pub returns-in_err-write_rest-in-Err-NoMemory-clause-err : goal.returns-in_err-write_rest-in-Err-NoMemory-clause-err
returns-in_err-write_rest-in-Err-NoMemory-clause-err g c =
    let text = said c.args.self.now.form (capture_plays c.args.self.now.settings c.args.lines.items) in
    on_err c.from_residual-in_err-write_rest-in-Err-NoMemory.result
    (part_of (g.W.Sink.state c.args.sink.now).written (g.W.Sink.state c.write_rest-in-Err-NoMemory.new.sink).written c.args.block.now text c.args.ending.now
    (rest_cut (g.W.Sink.state c.args.sink.now).written (g.W.Sink.state c.pass_lines.new.sink).written (g.W.Sink.state c.write_rest-in-Err-NoMemory.new.sink).written c.pass_lines.new.block
    (c.args.block.now ++ text) c.in-Err-NoMemory.ensures.err c.in_err-write_rest-in-Err-NoMemory.ensures.err))

pub returns-in_ok-write_rest-in-Err-NoMemory-clause-err : goal.returns-in_ok-write_rest-in-Err-NoMemory-clause-err
returns-in_ok-write_rest-in-Err-NoMemory-clause-err g c =
    let text = said c.args.self.now.form (capture_plays c.args.self.now.settings c.args.lines.items) in
    part_of (g.W.Sink.state c.args.sink.now).written (g.W.Sink.state c.write_rest-in-Err-NoMemory.new.sink).written c.args.block.now text c.args.ending.now
    (run_stopped (g.W.Sink.state c.args.sink.now).written (g.W.Sink.state c.pass_lines.new.sink).written (g.W.Sink.state c.write_rest-in-Err-NoMemory.new.sink).written c.pass_lines.new.block
    (c.args.block.now ++ text) c.in-Err-NoMemory.ensures.err c.in_ok-write_rest-in-Err-NoMemory.ensures.ok)

pub returns-in-Err-clause-err : goal.returns-in-Err-clause-err
returns-in-Err-clause-err g c =
    let text = said c.args.self.now.form (capture_plays c.args.self.now.settings c.args.lines.items) in
    part_of (g.W.Sink.state c.args.sink.now).written (g.W.Sink.state c.pass_lines.new.sink).written c.args.block.now text c.args.ending.now
    (run_left (g.W.Sink.state c.args.sink.now).written (g.W.Sink.state c.pass_lines.new.sink).written c.pass_lines.new.block (c.args.block.now ++ text) c.in-Err.ensures.err)
