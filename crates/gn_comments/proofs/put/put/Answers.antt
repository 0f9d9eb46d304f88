use Rattle.gn_io.proofs.StreamLemmas.{appends_more, within_more, stalls_same}
use Rattle.gn_comments.proofs.put.put.Goals as goal

pub loop-count-preserved : goal.loop-count-preserved
loop-count-preserved g c = record {
  within = within_more c.args.bytes.now c.loop-count.count c.in_ok-taken.taken c.loop-count.invariant.within c.in_ok-taken.ensures.bound;
  written = appends_more (g.S.Sink.state c.args.sink.now).written (g.S.Sink.state c.loop-count.sink).written (g.S.Sink.state c.write.new.self).written c.args.bytes.now c.loop-count.count c.in_ok-taken.taken c.loop-count.invariant.written c.in_ok-taken.ensures.bytes;
  unfailed = (
    rw c.in_ok-taken.ensures.failures c.loop-count.invariant.unfailed.0,
    rw (c.in_ok-taken.ensures.stalls, stalls_same c.in_ok-taken.taken (g.S.Sink.state c.loop-count.sink).stalls _ c.if-taken-eq0.false) c.loop-count.invariant.unfailed.1,
  );
}
