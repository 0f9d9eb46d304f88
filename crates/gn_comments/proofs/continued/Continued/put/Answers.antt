use Rattle.gn_comments.proofs.RestLemmas.{rest_more}
use Rattle.gn_comments.proofs.SinkLemmas.{grown_kept, grown_more}
use Rattle.gn_comments.proofs.continued.Continued.put.Goals as goal

pub invariant_of-self : goal.invariant_of-self
invariant_of-self g c =
    let old = c.args.self.now in
    let begun = g.B.Naming.begun in
    record {
      here = old.here;
      parted = old.parted;
      before = old.before;
      written = grown_kept begun.written (g.W.Sink.state old.sink.now).written (g.W.Sink.state c.write.new.self).written old.rest.items old.written c.in_err-taken.ensures.bytes;
    }

pub invariant_of-self-2 : goal.invariant_of-self-2
invariant_of-self-2 g c =
    let old = c.args.self.now in
    let begun = g.B.Naming.begun in
    record {
      here = old.here;
      parted = rest_more old.text.items old.left.items old.rest.items c.note.new.text.items c.note-2.new.text.items _ old.parted c.note.ensures c.note-2.ensures;
      before = λ no. absurd (cc no);
      written = grown_more begun.written (g.W.Sink.state old.sink.now).written (g.W.Sink.state c.write.new.self).written old.rest.items _ c.note-2.new.text.items old.written c.in_ok-taken.ensures.bytes c.note-2.ensures;
    }
