use Rattle.std.proofs.Common.{◌∙◌, ap, length, refl, reverse}
use Rattle.std.proofs.lemmas.List.{reverse-reverse}
use Rattle.gn_replay.proofs.RunLemmas.{on_err, running_done, running_more, running_part, running_start, turned}
use Rattle.gn_replay.proofs.playing.Play.pass_lines.Goals as goal

pub loop-numbered-init : goal.loop-numbered-init
loop-numbered-init g c = record {
  running =
      running_start c.args.self.now (g.W.Sink.state c.args.sink.now).written c.args.block.now c.args.lines.items
      (reverse c.reverse.new.self.items) (rw c.reverse.ensures.items (reverse-reverse c.args.lines.items))
      c.requires;
  unfailed = (refl, refl);
}

pub returns-in_err-written-clause-err : goal.returns-in_err-written-clause-err
returns-in_err-written-clause-err g c =
    on_err c.from_residual.result
    (running_part c.args.self.now.form c.args.block.now c.args.self.now.settings c.loop-numbered.self (g.W.Sink.state c.args.sink.now).written (g.W.Sink.state c.loop-numbered.sink).written (g.W.Sink.state c.write_line-written.new.sink).written
    c.loop-numbered.block c.write_line-written.new.block
    c.in-Some.numbered.0 c.in-Some.numbered.1 (reverse c.take_last.new.lines.items) c.args.lines.items (rw (turned c.loop-numbered.lines.items c.take_last.new.lines.items c.in-Some.numbered c.in-Some.ensures) at c.loop-numbered.invariant.running)
    c.in_err-written.ensures.err)

pub loop-numbered-preserved : goal.loop-numbered-preserved
loop-numbered-preserved g c = record {
  running =
      running_more c.args.self.now.form c.args.block.now c.args.self.now.settings c.loop-numbered.self c.write_line-written.new.self (g.W.Sink.state c.args.sink.now).written (g.W.Sink.state c.loop-numbered.sink).written (g.W.Sink.state c.write_line-written.new.sink).written
      c.loop-numbered.block c.write_line-written.new.block
      c.in-Some.numbered.0 c.in-Some.numbered.1 (reverse c.take_last.new.lines.items) c.args.lines.items (rw (turned c.loop-numbered.lines.items c.take_last.new.lines.items c.in-Some.numbered c.in-Some.ensures) at c.loop-numbered.invariant.running)
      c.in_ok-written.ensures.ok;
  unfailed =
      (c.in_ok-written.ensures.writes.0 ∙ c.loop-numbered.invariant.unfailed.0, c.in_ok-written.ensures.writes.1 ∙ c.loop-numbered.invariant.unfailed.1);
}

pub returns-clause-ok : goal.returns-clause-ok
returns-clause-ok g c =
    running_done c.args.self.now.form c.args.block.now c.args.self.now.settings c.loop-numbered.self (g.W.Sink.state c.args.sink.now).written (g.W.Sink.state c.loop-numbered.sink).written c.loop-numbered.block
    (reverse c.loop-numbered.lines.items) c.args.lines.items (ap (λ xs. length (reverse xs)) c.in_default.ensures)
    c.loop-numbered.invariant.running
