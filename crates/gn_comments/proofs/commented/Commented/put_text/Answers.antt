use Rattle.std.proofs.Common.{ap, ◌∙◌, ℕ, List}
use Rattle.gn_comments.specs.Comments.{place_behind}
use Rattle.gn_comments.specs.Comments.Place.{start}
use Rattle.gn_comments.proofs.SinkLemmas.{bare_on, counted_on, grown_kept, grown_more, place_on}
use Rattle.gn_comments.proofs.commented.Commented.put_text.Goals as goal

pub invariant_of-self : goal.invariant_of-self
invariant_of-self g c =
    let old = c.args.self.now in
    let begun = g.B.Naming.begun in
    record {
      here = old.here;
      within = old.within;
      line = old.line;
      place = old.place;
      same = old.same;
      written = grown_kept begun.written (g.W.Sink.state old.sink.now).written (g.W.Sink.state c.write.new.self).written old.both.items old.written c.in_err-taken.ensures.bytes;
      failures = counted_on _ begun.failures (g.W.Sink.state old.sink.now).failures (g.W.Sink.state c.write.new.self).failures old.failures c.write.ensures.failures;
      stalls = counted_on _ begun.stalls (g.W.Sink.state old.sink.now).stalls (g.W.Sink.state c.write.new.self).stalls old.stalls c.write.ensures.stalls;
      whole = λ none. c.requires;
    }

pub invariant_of-self-2 : goal.invariant_of-self-2
invariant_of-self-2 g c =
    let old = c.args.self.now in
    let begun = g.B.Naming.begun in
    record {
      here = old.here;
      within = old.within;
      line = λ is. ap (λ (xs : List ℕ). place_behind start xs) c.note.ensures ∙ c.begins_behind-self.ensures old.text.items old.line is;
      place = place_on old.text.items old.both.items c.note.new.text.items c.note-2.new.text.items old.comments.bytes.items _ old.done c.requires old.place c.note.ensures c.note-2.ensures;
      same = bare_on old.text.items old.both.items c.note.new.text.items c.note-2.new.text.items old.comments.bytes.items _ old.done c.requires old.place old.same c.note.ensures c.note-2.ensures;
      written = grown_more begun.written (g.W.Sink.state old.sink.now).written (g.W.Sink.state c.write.new.self).written old.both.items _ c.note-2.new.text.items old.written c.in_ok-taken.ensures.bytes c.note-2.ensures;
      failures = counted_on _ begun.failures (g.W.Sink.state old.sink.now).failures (g.W.Sink.state c.write.new.self).failures old.failures c.write.ensures.failures;
      stalls = counted_on _ begun.stalls (g.W.Sink.state old.sink.now).stalls (g.W.Sink.state c.write.new.self).stalls old.stalls c.write.ensures.stalls;
      whole = λ none. c.requires;
    }
