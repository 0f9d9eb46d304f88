use Rattle.gn_io.proofs.StreamLemmas.{appends_more, within_more, stalls_same, nothing_kept, part_kept}
use Rattle.gn_io.proofs.write.write_all.Goals as goal

pub loop-done-preserved : goal.loop-done-preserved
loop-done-preserved g c = record {
  within = within_more c.args.bytes.now c.loop-done.done c.in-Ok.n c.loop-done.invariant.within c.in-Ok.ensures.bound;
  written = appends_more (g.S.Sink.state c.args.sink.now).written (g.S.Sink.state c.loop-done.sink).written (g.S.Sink.state c.write.new.self).written c.args.bytes.now c.loop-done.done c.in-Ok.n c.loop-done.invariant.written c.in-Ok.ensures.bytes;
  unfailed = (
    rw c.in-Ok.ensures.failures c.loop-done.invariant.unfailed.0,
    rw (c.in-Ok.ensures.stalls, stalls_same c.in-Ok.n (g.S.Sink.state c.loop-done.sink).stalls _ c.in-Ok.n-test.1) c.loop-done.invariant.unfailed.1,
  );
}

pub returns-in-Err-clause-err : goal.returns-in-Err-clause-err
returns-in-Err-clause-err g c = part_kept (g.S.Sink.state c.args.sink.now).written (g.S.Sink.state c.loop-done.sink).written (g.S.Sink.state c.write.new.self).written c.args.bytes.now c.loop-done.done c.loop-done.invariant.written c.in-Err.ensures.bytes

pub returns-in-Ok-eq0-clause-err : goal.returns-in-Ok-eq0-clause-err
returns-in-Ok-eq0-clause-err g c = part_kept (g.S.Sink.state c.args.sink.now).written (g.S.Sink.state c.loop-done.sink).written (g.S.Sink.state c.write.new.self).written c.args.bytes.now c.loop-done.done c.loop-done.invariant.written
    (nothing_kept (g.S.Sink.state c.loop-done.sink).written (g.S.Sink.state c.write.new.self).written c.in-Ok-eq0.field-0 _ c.in-Ok-eq0.field-0-test c.in-Ok-eq0.ensures.bytes)
