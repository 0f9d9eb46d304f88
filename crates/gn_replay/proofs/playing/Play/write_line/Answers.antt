use Rattle.std.proofs.Common.{ap, refl, ◌∙◌}
use Rattle.gn_replay.specs.Playing.{Playing}
use Rattle.gn_replay.proofs.RunLemmas.{on_err, part_written, still_waits, written}
use Rattle.gn_replay.proofs.playing.Play.write_line.Goals as goal

pub returns-in_err-play_line-clause-err : goal.returns-in_err-play_line-clause-err
returns-in_err-play_line-clause-err g c = on_err c.from_residual.result (λ states are. still_waits (g.W.Sink.state c.args.sink.now).written c.args.block.now c.args.block.now _ refl)

pub returns-in_err-add-clause-err : goal.returns-in_err-add-clause-err
returns-in_err-add-clause-err g c =
    on_err c.from_residual-in_err-add.result
    (λ states are. still_waits (g.W.Sink.state c.args.sink.now).written c.args.block.now c.add.new.self _ c.in_err-add.ensures.err)

pub returns-in_err-write_full-clause-err : goal.returns-in_err-write_full-clause-err
returns-in_err-write_full-clause-err g c =
    on_err c.from_residual-in_err-write_full.result
    (part_written c.args.self.now c.clear_out.new.self c.play_line.new.self (g.W.Sink.state c.args.sink.now).written (g.W.Sink.state c.write_full.new.sink).written
    c.args.block.now c.add.new.self c.write_full.new.self c.args.line.now c.deref.result.now
    c.clear_out.ensures c.in_ok-play_line.ensures (c.deref.ensures.value ∙ ap (λ (v : Playing _). v.out) c.self.view_is) c.in_ok-add.ensures.ok
    c.in_err-write_full.ensures.empty c.in_err-write_full.ensures.err)

pub returns-clause-ok : goal.returns-clause-ok
returns-clause-ok g c =
    written c.args.self.now c.clear_out.new.self c.play_line.new.self (g.W.Sink.state c.args.sink.now).written (g.W.Sink.state c.write_full.new.sink).written
    c.args.block.now c.add.new.self c.write_full.new.self c.args.line.now c.deref.result.now
    c.clear_out.ensures c.in_ok-play_line.ensures (c.deref.ensures.value ∙ ap (λ (v : Playing _). v.out) c.self.view_is) c.in_ok-add.ensures.ok
    c.in_ok-write_full.ensures.ok
